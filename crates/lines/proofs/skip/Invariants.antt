-- What each turn of `lines::skip` keeps: none of the characters so far is a line feed.
-- Assumes nothing.
use Rattle.std.proofs.Common.{◌≡◌, ◌*◌, take}
use Rattle.lines.specs.Lines.{plain}
use Rattle.lines.proofs.skip.Given as goal

abbrev pub invariant-loop-k : goal.invariant-loop-k
invariant-loop-k l = plain (take (l.k * 16) l.part) ≡ take (l.k * 16) l.part
