-- `tag::differences` meets its contract. After so many turns what the first bytes differ in is gathered. First comes what a comparison
-- that ends too early fails at: at the end all sixteen have been gathered.
-- Assumes nothing.
use Rattle.std.proofs.Common.{refl}
use Rattle.tag.specs.Difference.{differences}
use Rattle.tag.proofs.Difference.{gathered_more}
use Rattle.tag.proofs.differences.Goals as goal

pub loop-at-init : goal.loop-at-init
unfolding differences
loop-at-init c = refl

pub loop-at-preserved : goal.loop-at-preserved
loop-at-preserved c = gathered_more _ _ _ c.loop-at.invariant
