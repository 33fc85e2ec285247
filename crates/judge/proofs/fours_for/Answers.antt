-- `judge::fours_for` meets its contract. What is left of the steps, of which no more are whole.
-- Assumes nothing.
use Rattle.std.proofs.Common.{ap₂, ◌-◌}
use Rattle.chain.specs.Stream.{settled}
use Rattle.judge.proofs.fours_for.Goals as goal

pub returns : goal.returns
unfolding settled
returns c = ap₂ ◌-◌ c.settled_of.ensures c.wholes_for.ensures.0
