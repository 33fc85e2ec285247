-- `judge::wholes_for` meets its contract. The quotient is rounded up as the definition rounds it.
-- Assumes nothing.
use Rattle.judge.proofs.Total.{wholes_are}
use Rattle.judge.proofs.wholes_for.Goals as goal

pub returns : goal.returns
returns c = wholes_are _ _ _ _ c.settled_of.ensures c.div_ceil.ensures
