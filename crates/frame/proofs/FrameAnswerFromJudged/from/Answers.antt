-- `FrameAnswer::from` meets its contract. Field by field.
-- Assumes nothing.
use Rattle.std.proofs.Common.{Result, ap, ◌∙◌}
use Rattle.numbers.specs.declared.Refusal.{Refusal}
use Rattle.numbers.specs.Told.{number}
use Rattle.frame.specs.Told.{told_frame}
use Rattle.frame.proofs.Made.{number_and}
use Rattle.frame.proofs.FrameAnswerFromJudged.from.Goals as goal

pub returns : goal.returns
unfolding told_frame
returns c =
    let n = c.told.ensures ∙ ap (λ (r : Result (Unit {0}) Refusal). number r) c.and.ensures ∙ number_and c.args.judged.body in
    let l = c.unwrap_or.ensures in
    λ i. record { number = n i; whole = c.args.judged.counts.whole; four = c.args.judged.counts.four; body = l i }
