-- `lines::clear` meets its contract. After each turn nothing was gathered only where none of the characters so far is a line feed.
-- Assumes nothing.
use Rattle.std.proofs.Common.{refl, rules}
use Rattle.lines.proofs.Finding.{clear_none, clear_more}
use Rattle.lines.proofs.clear.Goals as goal

pub loop-c-init : goal.loop-c-init
loop-c-init c = clear_none _

pub loop-c-preserved : goal.loop-c-preserved
loop-c-preserved c = clear_more c.loop-c.invariant (search rules) refl
