-- `Judged::from` meets its contract.
-- Assumes nothing.
use Rattle.std.proofs.Common.{refl}
use Rattle.numbers.specs.Told.{number}
use Rattle.frame.specs.Frame.{refused_frame}
use Rattle.frame.specs.Told.{told_frame}
use Rattle.frame.proofs.JudgedFromRefusal.from.Goals as goal

pub returns : goal.returns
unfolding number refused_frame told_frame
returns c = refl
