-- What each turn of `hex_line::spell` keeps: the characters of the first i bytes stand at the front of the space.
-- Assumes nothing.
use Rattle.std.proofs.Common.{◌*◌, length}
use Rattle.laws.proofs.Laid.{Laid}
use Rattle.hex_line.specs.Line.{encoded}
use Rattle.hex_line.proofs.spell.Given as goal

abbrev pub invariant-loop-i : goal.invariant-loop-i
invariant-loop-i l = Laid (encoded l.bytes) l.initial.space 0 (2 * length l.bytes) l.space (2 * l.i)
