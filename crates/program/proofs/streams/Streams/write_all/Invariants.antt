-- Less is left to write after each turn.
use Rattle.std.specs.Prelude.{length}
use Rattle.program.proofs.streams.Streams.write_all.Given as goal

abbrev pub decreases-loop-rest : goal.decreases-loop-rest
decreases-loop-rest l = length l.rest
