-- `writer::write` meets its contract. By the first fault; then the tag is made, the body is laid, and behind it the tag.
-- Assumes nothing.
use Rattle.std.proofs.Common.{◌≡◌, sym, ◌∙◌, List, ℕ, ◌+◌, length, take, length-take-le, ◌≤◌, refl, arith, rules}
use Rattle.numbers.specs.Told.{number}
use Rattle.tag.specs.Tag.{tag_bytes}
use Rattle.hex_line.proofs.Told.{encoded_refused}
use Rattle.writer.specs.Line.{write_number}
use Rattle.numbers.proofs.Number.{handed_on}
use Rattle.writer.proofs.Number.{Fits, writes_told}
use Rattle.writer.proofs.Laid.{write_refused, tag_refused, body_room, end_within, more_refused, line_within, written_whole}
use Rattle.writer.proofs.write.Goals as goal
use Rattle.writer.proofs.write.Goals.{In_ok-fault, In_ok-end}

-- no fault was found
none : (c : In_ok-fault) → write_number c.args.keys (length c.args.space.now) (length c.args.body.now) ≡ 0
unfolding number
none c = sym c.in_ok-fault.ensures

fits : (c : In_ok-fault) → Fits c.args.keys (length c.args.body.now)
fits c = (writes_told _ _ _ (none c)).1

pub returns-in_err-fault : goal.returns-in_err-fault
unfolding number
returns-in_err-fault c =
    rw (handed_on c.from_residual.result c.from_residual.ensures.1) (write_refused _ _ _ _ c.in_err-fault.ensures)

pub slice_bounds-made-end : goal.slice_bounds-made-end
slice_bounds-made-end c = omega (arith, c.size.ensures, (fits (goal.at.slice_bounds-made-end c).In_ok-fault).set.tag.high)

pub slice_bounds-slice-end : goal.slice_bounds-slice-end
slice_bounds-slice-end c =
    sym (length-take-le _ _ (omega (arith, c.size.ensures, (fits (goal.at.slice_bounds-slice-end c).In_ok-fault).set.tag.high)))

-- the slice for the tag is of its size
sized : (c : In_ok-fault) {n : ℕ} (z : List ℕ) → n ≡ tag_bytes c.args.keys.bits → length z ≡ 16
    → length (take n z) ≡ tag_bytes c.args.keys.bits
sized c z e l = length-take-le _ z (omega (arith, (fits c).set.tag.high)) ∙ e

pub returns-in_err-counts : goal.returns-in_err-counts
returns-in_err-counts c =
    let f = (goal.at.returns-in_err-counts c).In_ok-fault in
    absurd (tag_refused _ _ _ (none f) _ (sized f _ c.size.ensures refl) c.in_err-counts.ensures _ refl)

pub returns-in_err-end : goal.returns-in_err-end
returns-in_err-end c =
    let f = (goal.at.returns-in_err-end c).In_ok-fault in
    absurd (encoded_refused _ _ (body_room _ _ _ (none f)) _ c.in_err-end.ensures)

pub slice_bounds-encode-count : goal.slice_bounds-encode-count
slice_bounds-encode-count c =
    let f = (goal.at.slice_bounds-encode-count c).In_ok-fault in
    end_within _ _ _ (none f) _ _ _ _ _ (sized f _ c.size.ensures refl) (search rules) c.in_ok-counts.ensures c.in_ok-end.ensures

pub slice_bounds-encode-start : goal.slice_bounds-encode-start
slice_bounds-encode-start c =
    let f = (goal.at.slice_bounds-encode-start c).In_ok-fault in
    let h : c.in_ok-end.end ≤ length c.encode.new.space =
    end_within _ _ _ (none f) _ _ _ _ _ (sized f _ c.size.ensures refl) (search rules) c.in_ok-counts.ensures c.in_ok-end.ensures in
    search rules

pub returns-in_err-more : goal.returns-in_err-more
returns-in_err-more c =
    let f = (goal.at.returns-in_err-more c).In_ok-fault in
    absurd
    (more_refused _ _ _ (none f) _ _ _ _ _ (sized f _ c.size.ensures refl) (search rules) c.in_ok-counts.ensures c.in_ok-end.ensures _
    c.in_err-more.ensures)

pub overflow_add-result : goal.overflow_add-result
overflow_add-result c =
    let f = (goal.at.overflow_add-result c).In_ok-fault in
    let h : c.in_ok-end.end + c.in_ok-more.more ≤ 510 =
    line_within _ _ _ (none f) _ _ _ _ _ (sized f _ c.size.ensures refl) (search rules) c.in_ok-counts.ensures c.in_ok-end.ensures _
    c.in_ok-more.ensures in
    search rules

pub returns : goal.returns
returns c =
    let f = (goal.at.returns c).In_ok-fault in
    written_whole _ _ _ (none f) _ _ _ _ _ (sized f _ c.size.ensures refl) (search rules) c.in_ok-counts.ensures c.in_ok-end.ensures _
    c.in_ok-more.ensures _ refl
