-- What each turn of `program::run` keeps: whatever the loop may hand back from here, it may from the start.
-- Assumes nothing.
use Rattle.std.specs.Prelude.{◌≡◌, length}
use Rattle.program.specs.declared.Ran.{Ran}
use Rattle.program.specs.Run.{Runs}
use Rattle.program.proofs.run.Given as goal

abbrev pub invariant-loop-left : goal.invariant-loop-left
invariant-loop-left l = (length l.space ≡ 4096) × ((r : Ran) → Runs l.left l.s r → Runs l.reads l.initial.s r)
