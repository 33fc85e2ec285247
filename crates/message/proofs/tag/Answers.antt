-- `message::tag` meets its contract. By the first fault.
-- Assumes nothing.
use Rattle.std.proofs.Common.{sym}
use Rattle.numbers.specs.Told.{number}
use Rattle.tag.proofs.Answered.{making_err, making_stays, making_written}
use Rattle.numbers.proofs.Number.{handed_on}
use Rattle.message.proofs.Number.{tags}
use Rattle.message.proofs.tag.Goals as goal

pub returns-in_err-fault : goal.returns-in_err-fault
returns-in_err-fault c =
    rw (handed_on c.from_residual.result c.from_residual.ensures.1)
    (making_err _ _ _ c.in_err-fault.ensures, making_stays _ _ _ c.in_err-fault.ensures _)

pub sealed-requires : goal.sealed-requires
unfolding number
sealed-requires c = let t = tags _ _ _ (sym c.in_ok-fault.ensures) in (t.some, t.fits)

pub returns : goal.returns
unfolding number
returns c =
    let none = sym c.in_ok-fault.ensures in
    let t = tags _ _ _ none in
    making_written _ _ _ _ _ none t.set.tag t.size c.sealed.ensures c.write.ensures
