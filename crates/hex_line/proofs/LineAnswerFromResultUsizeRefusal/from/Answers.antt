-- What a call hands back is told as `told_line` tells it.
-- Assumes nothing.
use Rattle.std.proofs.Common.{refl}
use Rattle.numbers.specs.Told.{number}
use Rattle.hex_line.specs.Told.{told_line}
use Rattle.hex_line.proofs.LineAnswerFromResultUsizeRefusal.from.Goals as goal

pub returns-in-Ok : goal.returns-in-Ok
unfolding told_line
returns-in-Ok c = rw c.in-Ok.is refl

pub returns-in-Err : goal.returns-in-Err
unfolding told_line number
returns-in-Err c = rw (c.in-Err.is, c.told.ensures) refl
