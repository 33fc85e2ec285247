-- What each turn of `lines::clear` keeps: nothing was gathered only where none of the first characters is a line feed.
-- Assumes nothing.
use Rattle.lines.proofs.Finding.{Clear}
use Rattle.lines.proofs.clear.Given as goal

abbrev pub invariant-loop-c : goal.invariant-loop-c
invariant-loop-c l = Clear l.some l.n l.c-index
