-- `tag::write` meets its contract. By the first fault of the tag length and the slice.
-- Assumes nothing.
use Rattle.std.proofs.Common.{rules, sym, length, ◌≤◌, length-take-le}
use Rattle.numbers.specs.Told.{number}
use Rattle.numbers.proofs.Number.{handed_on}
use Rattle.tag.proofs.Answered.{making_err, making_stays, slice_made}
use Rattle.tag.proofs.Number.{suits}
use Rattle.tag.proofs.Tagged.{tag_written}
use Rattle.tag.proofs.write.Goals as goal
use Rattle.tag.proofs.write.Goals.{After-kept-tag}

pub returns-in_err-fault : goal.returns-in_err-fault
returns-in_err-fault c =
    rw (handed_on c.from_residual.result c.from_residual.ensures.1)
    (making_err _ _ _ c.in_err-fault.ensures, making_stays _ _ _ c.in_err-fault.ensures _)

-- the slice is no longer than the block of which the tag is the front
fits : (c : After-kept-tag) → length c.args.slice.now ≤ length c.kept-tag.result
unfolding number
fits c = let s = suits _ _ (sym c.in_ok-fault.ensures) in search rules

pub slice_bounds-tag-end : goal.slice_bounds-tag-end
slice_bounds-tag-end c = fits (goal.at.slice_bounds-tag-end c).After-kept-tag

pub slice_bounds-copy_from_slice-end : goal.slice_bounds-copy_from_slice-end
slice_bounds-copy_from_slice-end c = sym (length-take-le _ _ (fits (goal.at.slice_bounds-copy_from_slice-end c).After-kept-tag))

pub copy_from_slice-requires : goal.copy_from_slice-requires
copy_from_slice-requires c = sym (length-take-le _ _ (fits (goal.at.copy_from_slice-requires c).After-kept-tag))

pub returns : goal.returns
unfolding number
returns c =
    let none = sym c.in_ok-fault.ensures in
    let s = suits _ _ none in
    let a = c.args in
    slice_made a.bits a.made a.slice.now none _ c.from.ensures
    (tag_written a.bits a.made.value _ a.slice.now c.copy_from_slice.ensures.after c.kept-tag.ensures
    s.bits.high s.size (search rules))
