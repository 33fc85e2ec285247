-- `frame::fault` meets its contract. One test after the other.
-- Assumes nothing.
use Rattle.std.proofs.Common.{refl, arith}
use Rattle.numbers.specs.Told.{number, number_of}
use Rattle.numbers.proofs.Number.{not_done, handed_on}
use Rattle.frame.proofs.Number.{frame_set, frame_long, frame_short, frame_none}
use Rattle.frame.proofs.fault.Goals as goal

pub returns-in_err-set_fault : goal.returns-in_err-set_fault
unfolding number
returns-in_err-set_fault c =
    rw (handed_on c.from_residual.result c.from_residual.ensures.1) (frame_set _ _ c.in_err-set_fault.ensures (not_done _))

pub returns-then-n-gt-LONGEST : goal.returns-then-n-gt-LONGEST
unfolding number number_of
returns-then-n-gt-LONGEST c = frame_long _ _ c.in_ok-set_fault.ensures refl (omega arith)

pub returns-then-n-size : goal.returns-then-n-size
unfolding number number_of
returns-then-n-size c = frame_short _ _ c.in_ok-set_fault.ensures refl (omega arith) (omega arith)

pub returns : goal.returns
unfolding number
returns c = frame_none _ _ c.in_ok-set_fault.ensures refl (omega arith) (omega arith)
