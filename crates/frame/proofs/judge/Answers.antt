-- `frame::judge` meets its contract. By the first fault, and then by the check of the tag.
-- Assumes nothing.
use Rattle.std.proofs.Common.{◌≡◌, sym, ◌∙◌, length, arith}
use Rattle.numbers.specs.Told.{number}
use Rattle.numbers.proofs.Number.{not_done}
use Rattle.frame.specs.Frame.{frame_number}
use Rattle.frame.proofs.Number.{framed}
use Rattle.frame.proofs.Made.{answer_refused, answer_made}
use Rattle.frame.proofs.judge.Goals as goal
use Rattle.frame.proofs.judge.Goals.{In_default}

none : (c : In_default) → frame_number c.args.keys (length c.args.frame.now) ≡ 0
unfolding number
none c = sym c.in_default.ensures

pub returns-in-Err : goal.returns-in-Err
unfolding number
returns-in-Err c = c.from.ensures ∙ answer_refused _ _ c.in-Err.ensures (not_done _)

pub overflow_sub-end : goal.overflow_sub-end
overflow_sub-end c = omega (arith, c.size.ensures, (framed _ _ (none (goal.at.overflow_sub-end c).In_default)).some)

pub returns : goal.returns
returns c =
    answer_made c.args.keys c.args.frame.now c.verify-v.result (none (goal.at.returns c).In_default) c.size.ensures c.and.ensures
    c.verify-v.ensures
