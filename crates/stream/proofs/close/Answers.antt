-- `stream::close` meets its contract. By the first fault.
-- Assumes nothing.
use Rattle.std.proofs.Common.{sym}
use Rattle.numbers.specs.Told.{number}
use Rattle.tag.proofs.Answered.{making_err, making_stays, making_written}
use Rattle.numbers.proofs.Number.{handed_on}
use Rattle.stream.proofs.Number.{closes}
use Rattle.stream.proofs.close.Goals as goal

pub returns-in_err-close_fault : goal.returns-in_err-close_fault
returns-in_err-close_fault c =
    rw (handed_on c.from_residual.result c.from_residual.ensures.1)
    (making_err _ _ _ c.in_err-close_fault.ensures, making_stays _ _ _ c.in_err-close_fault.ensures _)

pub sealed-requires : goal.sealed-requires
unfolding number
sealed-requires c =
    let t = closes _ _ _ (sym c.in_ok-close_fault.ensures) in
    record { form = t.form; some = t.some }

pub returns : goal.returns
unfolding number
returns c =
    let none = sym c.in_ok-close_fault.ensures in
    let t = closes _ _ _ none in
    making_written _ _ _ _ _ none t.set.tag t.size c.sealed.ensures c.write.ensures
