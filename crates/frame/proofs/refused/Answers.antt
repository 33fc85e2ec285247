-- `frame::refused` meets its contract.
-- Assumes nothing.
use mathlib.Core.Path.{refl}
use Rattle.frame.specs.Frame.{refused_frame}
use Rattle.frame.proofs.refused.Goals as goal

pub returns : goal.returns
unfolding refused_frame
returns c = refl
