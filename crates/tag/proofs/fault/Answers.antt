-- `tag::fault` meets its contract. By the tag length first.
-- Assumes nothing.
use Rattle.numbers.specs.Told.{number}
use Rattle.numbers.proofs.Number.{handed_on}
use Rattle.tag.proofs.Number.{no_tag, some_tag}
use Rattle.tag.proofs.fault.Goals as goal

pub returns-in_err-bits_fault : goal.returns-in_err-bits_fault
returns-in_err-bits_fault c =
    rw (handed_on c.from_residual.result c.from_residual.ensures.1) (no_tag _ _ _ c.in_err-bits_fault.ensures)

pub returns : goal.returns
unfolding number
returns c = some_tag _ _ c.in_ok-bits_fault.ensures c.size_fault.ensures
