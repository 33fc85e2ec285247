-- `outgoing::lay` meets its contract. By whether the line decodes, and whether its body is refused.
-- Assumes nothing.
use Rattle.std.proofs.Common.{◌≤◌, refl, sym, length, length-take-le, rules}
use Rattle.numbers.proofs.Number.{not_done}
use Rattle.hex_line.specs.Told.{told_line}
use Rattle.hex_line.proofs.Told.{least_within}
use Rattle.writer.specs.Told.{told_write}
use Rattle.outgoing.proofs.Sent.{laid_unread, laid_body}
use Rattle.outgoing.proofs.lay.Goals as goal
use Rattle.outgoing.proofs.lay.Goals.{In-Ok}

within : (c : In-Ok) → c.in-Ok.end ≤ length c.decode.new.space
unfolding told_line
within c = least_within _ _ (search rules) c.in-Ok.ensures

pub returns-in_default : goal.returns-in_default
unfolding told_line
returns-in_default c = laid_unread _ _ _ (search rules) c.in_default.ensures _ (not_done _)

pub slice_bounds-body-end : goal.slice_bounds-body-end
slice_bounds-body-end c = within c

pub slice_bounds-write-end : goal.slice_bounds-write-end
slice_bounds-write-end c = sym (length-take-le _ _ (within (goal.at.slice_bounds-write-end c).In-Ok))

pub returns-in-Ok-write : goal.returns-in-Ok-write
unfolding told_line told_write
returns-in-Ok-write c = laid_body _ _ _ (search rules) c.in-Ok.ensures _ c.requires refl c.in-Ok-write.ensures

pub returns-in-Err : goal.returns-in-Err
unfolding told_line told_write
returns-in-Err c = laid_body _ _ _ (search rules) c.in-Ok.ensures _ c.requires refl c.in-Err.ensures
