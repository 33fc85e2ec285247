-- What the bytes before the next one differ in is gathered.
use Rattle.std.proofs.Common.{◌≡◌}
use Rattle.tag.specs.Difference.{differences}
use Rattle.tag.proofs.differences.Given as goal

abbrev pub invariant-loop-at : goal.invariant-loop-at
invariant-loop-at l = l.gathered ≡ differences l.at l.x l.y
