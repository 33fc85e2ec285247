-- What each turn of `session::pass_whole` keeps: the lines so far are told in the space, and the reader is between lines.
-- Assumes nothing.
use Rattle.std.specs.Prelude.{◌-◌, length}
use Rattle.session.specs.Inner.{Passes, between}
use Rattle.session.proofs.pass_whole.Given as goal

abbrev pub invariant-loop-at : goal.invariant-loop-at
invariant-loop-at l =
    Passes l.s.kind l.part (between l.keys) l.initial.at l.initial.out l.initial.space (between l.keys) l.at l.out l.space

abbrev pub decreases-loop-at : goal.decreases-loop-at
decreases-loop-at l = length l.part - l.at
