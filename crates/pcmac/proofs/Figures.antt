-- The figures marked P hold.
-- Assumes nothing.
use mathlib.Core.Path.{◌≡◌, refl, ◌∙◌}
use Prim.Native.Nat.{◌+◌}
use Rattle.field.specs.Figures.{substitutions_hold}
use Rattle.block.specs.Block.{blocks}
use Rattle.block.specs.Figures.{doublings_hold}
use Rattle.chain.specs.Count.{whole_for, four_for}
use Rattle.pcmac.specs.Figures.{StepRow, Takes, StepsHold, FiguresHold}
use Rattle.pcmac.proofs.Taggen.{taggen_whole, taggen_four}

-- a row holds where the closed formulas give it
takes : (r : StepRow) → whole_for r.order r.bytes + 1 ≡ r.whole → four_for r.order r.bytes ≡ r.four → Takes r
takes r w g k p M e =
    (taggen_whole k r.order p M ∙ rw e w, taggen_four k r.order p M ∙ rw e g)

-- each row of the table of steps
pub steps_hold : StepsHold
unfolding blocks
steps_hold = (
  takes _ refl refl,
  (
    takes _ refl refl,
    (
      takes _ refl refl,
      (takes _ refl refl, (takes _ refl refl, (takes _ refl refl, (takes _ refl refl, (takes _ refl refl, tt))))),
    ),
  ),
)

-- and the three tables
pub figures_hold : FiguresHold
figures_hold = (steps_hold, doublings_hold, substitutions_hold)
