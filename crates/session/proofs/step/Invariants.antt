-- What each turn of `session::step` keeps: the state and the space are those behind the characters that were taken.
-- Assumes nothing.
use Rattle.std.specs.Prelude.{◌-◌, length}
use Rattle.session.proofs.Stepping.{Stepping}
use Rattle.session.proofs.step.Given as goal

abbrev pub invariant-loop-t : goal.invariant-loop-t
invariant-loop-t l = Stepping l.initial.t l.part l.initial.space l.t l.space

abbrev pub decreases-loop-t : goal.decreases-loop-t
decreases-loop-t l = length l.part - l.t.taken
