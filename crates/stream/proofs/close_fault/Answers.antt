-- `stream::close_fault` meets its contract. Its four faults, in their order.
-- Assumes nothing.
use Rattle.laws.proofs.Fault.{fault_last}
use Rattle.numbers.specs.Told.{number}
use Rattle.judge.proofs.HandedOn.{first_err, first_ok}
use Rattle.stream.specs.Answer.{close_number}
use Rattle.numbers.proofs.Number.{handed_on}
use Rattle.stream.proofs.close_fault.Goals as goal

pub returns-in_err-set_fault : goal.returns-in_err-set_fault
unfolding close_number
returns-in_err-set_fault c =
    rw (handed_on c.from_residual.result c.from_residual.ensures.1) (first_err _ _ c.in_err-set_fault.ensures)

pub returns-in_err-size_fault : goal.returns-in_err-size_fault
unfolding close_number number
returns-in_err-size_fault c =
    rw (handed_on c.from_residual-in_err-size_fault.result c.from_residual-in_err-size_fault.ensures.1)
    (first_ok _ c.in_ok-set_fault.ensures (first_err _ _ c.in_err-size_fault.ensures))

pub returns-in_err-stream_fault : goal.returns-in_err-stream_fault
unfolding close_number number
returns-in_err-stream_fault c =
    rw (handed_on c.from_residual-in_err-stream_fault.result c.from_residual-in_err-stream_fault.ensures.1)
    (first_ok _ c.in_ok-set_fault.ensures (first_ok _ c.in_ok-size_fault.ensures (first_err _ _ c.in_err-stream_fault.ensures)))

pub returns : goal.returns
unfolding close_number number
returns c =
    first_ok _ c.in_ok-set_fault.ensures
    (first_ok _ c.in_ok-size_fault.ensures (first_ok _ c.in_ok-stream_fault.ensures (fault_last c.empty_fault.ensures)))
