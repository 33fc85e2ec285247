-- What each turn of `hex_line::is_hex` keeps: the faults of the first i characters are gathered.
-- Assumes nothing.
use Rattle.hex_line.proofs.Judging.{Gathered}
use Rattle.hex_line.proofs.is_hex.Given as goal

abbrev pub invariant-loop-c : goal.invariant-loop-c
invariant-loop-c l = Gathered l.line l.faulty l.c-index
