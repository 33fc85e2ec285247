-- `message::fault` meets its contract. Its four faults, in their order.
-- Assumes nothing.
use Rattle.std.proofs.Common.{ap, ◌∙◌, zero-add}
use Rattle.laws.proofs.Fault.{fault_last}
use Rattle.numbers.specs.Told.{number}
use Rattle.judge.specs.Fault.{length_number}
use Rattle.judge.proofs.HandedOn.{first_err, first_ok}
use Rattle.message.specs.Answer.{message_number}
use Rattle.numbers.proofs.Number.{handed_on}
use Rattle.message.proofs.fault.Goals as goal

pub returns-in_err-set_fault : goal.returns-in_err-set_fault
unfolding message_number
returns-in_err-set_fault c =
    rw (handed_on c.from_residual.result c.from_residual.ensures.1) (first_err _ _ c.in_err-set_fault.ensures)

pub returns-in_err-size_fault : goal.returns-in_err-size_fault
unfolding message_number number
returns-in_err-size_fault c =
    rw (handed_on c.from_residual-in_err-size_fault.result c.from_residual-in_err-size_fault.ensures.1)
    (first_ok _ c.in_ok-set_fault.ensures (first_err _ _ c.in_err-size_fault.ensures))

pub returns-in_err-length_fault : goal.returns-in_err-length_fault
unfolding message_number number
returns-in_err-length_fault c =
    rw (handed_on c.from_residual-in_err-length_fault.result c.from_residual-in_err-length_fault.ensures.1)
    (first_ok _ c.in_ok-set_fault.ensures
    (first_ok _ c.in_ok-size_fault.ensures
    (first_err _ _ (c.in_err-length_fault.ensures ∙ ap length_number (zero-add _)))))

pub returns : goal.returns
unfolding message_number number
returns c =
    first_ok _ c.in_ok-set_fault.ensures
    (first_ok _ c.in_ok-size_fault.ensures
    (first_ok _ (c.in_ok-length_fault.ensures ∙ ap length_number (zero-add _)) (fault_last c.empty_fault.ensures)))
