-- `stream::add` meets its contract. By the first fault.
-- Assumes nothing.
use Rattle.std.proofs.Common.{sym}
use Rattle.numbers.specs.Told.{number}
use Rattle.numbers.proofs.Number.{handed_on}
use Rattle.stream.proofs.Number.{adds, add_err, add_ok}
use Rattle.stream.proofs.add.Goals as goal

pub returns-in_err-add_fault : goal.returns-in_err-add_fault
returns-in_err-add_fault c =
    rw (handed_on c.from_residual.result c.from_residual.ensures.1) (add_err _ _ _ _ c.in_err-add_fault.ensures)

pub extended-requires : goal.extended-requires
unfolding number
extended-requires c =
    let a = adds _ _ _ (sym c.in_ok-add_fault.ensures) in
    record { form = a.form; fits = a.fits }

pub returns : goal.returns
unfolding number
returns c = add_ok _ _ _ (sym c.in_ok-add_fault.ensures) c.extended.ensures
