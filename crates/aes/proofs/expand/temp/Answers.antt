-- `aes::expand::temp` meets its contract. By the two cases of i mod 4.
-- Assumes nothing.
use borrow.Author.Tests.{eq-eqb, ne_eqb}
use Rattle.aes.specs.Schedule.{temp}
use Rattle.aes.proofs.expand.temp.Goals as goal

pub returns-then-i-eq0 : goal.returns-then-i-eq0
unfolding temp
returns-then-i-eq0 c = simp (eq-eqb _ _ c.if-i-eq0.true) (cc)

pub returns-else-i-eq0 : goal.returns-else-i-eq0
unfolding temp
returns-else-i-eq0 c = simp (ne_eqb _ _ c.if-i-eq0.false)
