-- `collierbud::put` meets its contract. By the places of the slice.
-- Assumes nothing.
use Rattle.std.proofs.Common.{◌∙◌}
use Rattle.collierbud.proofs.Answered.{counted_put, counted_left}
use Rattle.collierbud.proofs.put.Goals as goal

pub returns-then-counts-told : goal.returns-then-counts-told
returns-then-counts-told c = c.copy_from_slice.ensures.after ∙ counted_put _ _ c.if-counts-told.true

pub returns-else-counts-told : goal.returns-else-counts-told
returns-else-counts-told c = counted_left _ _ c.if-counts-told.false
