-- `keys::meant` meets its contract. By its test.
-- Assumes nothing.
use Rattle.std.proofs.Common.{eq-eqb, ne_eqb}
use Rattle.pcmac.specs.Limits.{resolved}
use Rattle.keys.proofs.meant.Goals as goal

pub returns-then-given-eq0 : goal.returns-then-given-eq0
unfolding resolved
returns-then-given-eq0 c = rw (eq-eqb _ _ c.if-given-eq0.true)

pub returns-else-given-eq0 : goal.returns-else-given-eq0
unfolding resolved
returns-else-given-eq0 c = rw (ne_eqb _ _ c.if-given-eq0.false)
