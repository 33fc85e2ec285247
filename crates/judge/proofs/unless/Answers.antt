-- `judge::unless` meets its contract. By the test.
-- Assumes nothing.
use Rattle.laws.proofs.Fault.{unless_holds, unless_fails}
use Rattle.numbers.specs.Told.{number}
use Rattle.judge.proofs.unless.Goals as goal

pub returns-then-holds : goal.returns-then-holds
unfolding number
returns-then-holds c = unless_holds _ c.if-holds.true

pub returns-else-holds : goal.returns-else-holds
unfolding number
returns-else-holds c = unless_fails _ c.if-holds.false
