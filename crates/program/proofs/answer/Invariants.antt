-- What each turn of `program::answer` keeps: the state is that behind the bytes that are answered.
-- Assumes nothing.
use Rattle.std.specs.Prelude.{length}
use Rattle.program.proofs.Answering.{Answering}
use Rattle.program.proofs.answer.Given as goal

abbrev pub invariant-loop-rest : goal.invariant-loop-rest
invariant-loop-rest l = Answering l.fn.s l.part l.state l.rest

abbrev pub decreases-loop-rest : goal.decreases-loop-rest
decreases-loop-rest l = length l.rest
