-- `keys::key_call` meets its contract. Refused where there is a fault; otherwise number 0 tells that both keys have sixteen bytes.
-- Assumes nothing.
use Rattle.std.proofs.Common.{◌≡◌, sym, ◌∙◌, arith, length}
use Rattle.block.proofs.Sixteen.{sixteen_all}
use Rattle.laws.proofs.UpTo.{Within}
use Rattle.numbers.specs.Told.{number}
use Rattle.keys.specs.Answer.{key_number}
use Rattle.numbers.proofs.Number.{handed_on}
use Rattle.keys.proofs.Number.{number_faultless, answer_err, answer_done, meant_within}
use Rattle.keys.proofs.key_call.Goals as goal
use Rattle.keys.proofs.key_call.Goals.{In_ok-fault}

-- past the `?` the number is 0
no_number : (c : In_ok-fault) → key_number c.args.order c.args.bits (length c.args.k.now) (length c.args.l.now) ≡ 0
unfolding number
no_number c = sym c.in_ok-fault.ensures

pub returns-in_err-fault : goal.returns-in_err-fault
returns-in_err-fault c =
    rw (handed_on c.from_residual.result c.from_residual.ensures.1) (answer_err _ _ _ _ _ c.in_err-fault.ensures)

pub overflow_cast-order : goal.overflow_cast-order
overflow_cast-order c =
    let none = no_number (goal.at.overflow_cast-order c).In_ok-fault in
    record { fits = omega (arith, (number_faultless _ _ _ _ none).order_fits) }

pub overflow_cast-bits : goal.overflow_cast-bits
overflow_cast-bits c =
    let none = no_number (goal.at.overflow_cast-bits c).In_ok-fault in
    record { fits = omega (arith, (number_faultless _ _ _ _ none).tag_fits) }

pub done-requires : goal.done-requires
done-requires c =
    let f = number_faultless _ _ _ _ (no_number (goal.at.done-requires c).In_ok-fault) in
    let w : Within 5 c.meant-d.result =
    meant_within c.meant-d.ensures (record { low = omega arith; high = omega arith }) f.order_fits in
    (w.low, w.high)

pub returns : goal.returns
returns c =
    let a = c.args in
    let z = no_number (goal.at.returns c).In_ok-fault in
    let f = number_faultless _ _ _ _ z in
    c.done.ensures
    ∙ answer_done a.order a.bits a.k.now a.l.now z c.meant-d.ensures
    c.meant-p.ensures (c.read.ensures ∙ sixteen_all _ f.k_size)
    (c.read-2.ensures ∙ sixteen_all _ f.l_size)
