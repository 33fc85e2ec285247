-- What a call hands back is told as `told_write` tells it.
-- Assumes nothing.
use Rattle.std.proofs.Common.{refl}
use Rattle.numbers.specs.Told.{number}
use Rattle.writer.specs.Told.{told_write}
use Rattle.writer.proofs.WrittenFromResultFrameLineRefusal.from.Goals as goal

pub returns-in-Ok : goal.returns-in-Ok
unfolding told_write
returns-in-Ok c = rw c.in-Ok.is refl

pub returns-in-Err : goal.returns-in-Err
unfolding told_write number
returns-in-Err c = rw (c.in-Err.is, c.told.ensures) refl
