-- What adding hands back is told as `told_added` tells it.
-- Assumes nothing.
use Rattle.std.proofs.Common.{refl}
use Rattle.numbers.specs.Told.{number}
use Rattle.stream.specs.Told.{told_added}
use Rattle.stream.proofs.AddedFromTuple2StreamResultStreamRefusal.from.Goals as goal

pub returns-in-Ok : goal.returns-in-Ok
unfolding told_added
returns-in-Ok c = rw c.in-Ok.is refl

pub returns-in-Err : goal.returns-in-Err
unfolding told_added number
returns-in-Err c = rw (c.in-Err.is, c.told.ensures) refl
