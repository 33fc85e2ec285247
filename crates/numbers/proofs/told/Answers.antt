-- `numbers::told` meets its contract. By whether there is a refusal.
-- Assumes nothing.
use Rattle.numbers.specs.Told.{number}
use Rattle.numbers.proofs.Number.{as_declared}
use Rattle.numbers.proofs.told.Goals as goal

pub returns-in-Ok : goal.returns-in-Ok
unfolding number
returns-in-Ok c = rw c.in-Ok.is

pub returns-in-Err : goal.returns-in-Err
unfolding number
returns-in-Err c = rw c.in-Err.is (as_declared c.in-Err.why)
