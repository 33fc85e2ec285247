-- What each turn of `hex_line::fill` keeps: the first i bytes stand at the front of the space.
-- Assumes nothing.
use Rattle.std.proofs.Common.{◌/◌, length}
use Rattle.laws.proofs.Laid.{Laid}
use Rattle.hex_line.specs.Line.{decoded}
use Rattle.hex_line.proofs.fill.Given as goal

abbrev pub invariant-loop-i : goal.invariant-loop-i
invariant-loop-i l = Laid (decoded l.line) l.initial.space 0 (length l.line / 2) l.space l.i
