-- `answer::of_line` meets its contract. By whether the line decodes.
-- Assumes nothing.
use Rattle.std.proofs.Common.{◌≤◌, sym, length, length-take-le, rules}
use Rattle.hex_line.specs.Told.{told_line}
use Rattle.hex_line.proofs.Told.{least_within}
use Rattle.answer.proofs.Answered.{line_refused, line_judged}
use Rattle.answer.proofs.of_line.Goals as goal
use Rattle.answer.proofs.of_line.Goals.{In-Ok}

within : (c : In-Ok) → c.in-Ok.end ≤ length c.decode.new.space
unfolding told_line
within c = least_within _ _ (search rules) c.in-Ok.ensures

pub slice_bounds-space-end : goal.slice_bounds-space-end
slice_bounds-space-end c = within c

pub slice_bounds-judge-end : goal.slice_bounds-judge-end
slice_bounds-judge-end c = sym (length-take-le _ _ (within (goal.at.slice_bounds-judge-end c).In-Ok))

pub returns-in-Ok : goal.returns-in-Ok
returns-in-Ok c = line_judged _ _ _ (search rules) _ c.in-Ok.ensures c.judge.ensures

pub returns-in-Err : goal.returns-in-Err
returns-in-Err c = line_refused _ _ _ (search rules) _ c.in-Err.ensures c.from.ensures
