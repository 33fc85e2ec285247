-- `stream::check` meets its contract. By the first fault.
-- Assumes nothing.
use Rattle.std.proofs.Common.{sym}
use Rattle.numbers.specs.Told.{number}
use Rattle.tag.proofs.Answered.{checking_err, checking_checked}
use Rattle.stream.proofs.Number.{closes}
use Rattle.stream.proofs.check.Goals as goal

pub returns-in-Err : goal.returns-in-Err
returns-in-Err c = checking_err _ _ _ c.in-Err.ensures _ _ _ c.unchecked.ensures

pub sealed-requires : goal.sealed-requires
unfolding number
sealed-requires c =
    let t = closes _ _ _ (sym c.in-Ok.ensures) in
    record { form = t.form; some = t.some }

pub returns-in-Ok : goal.returns-in-Ok
unfolding number
returns-in-Ok c =
    let none = sym c.in-Ok.ensures in
    let t = closes _ _ _ none in
    checking_checked _ _ _ _ _ none t.set.tag t.size c.sealed.ensures c.compare.ensures
