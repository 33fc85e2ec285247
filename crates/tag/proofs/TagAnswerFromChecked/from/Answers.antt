-- What a call that checks a tag hands back is told as `told_checked` tells it.
-- Assumes nothing.
use Rattle.std.proofs.Common.{ap, ℕ}
use Rattle.tag.specs.Told.{told_checked}
use Rattle.tag.specs.declared.TagAnswer.{TagAnswer}
use Rattle.tag.proofs.TagAnswerFromChecked.from.Goals as goal

pub returns : goal.returns
unfolding told_checked
returns c =
    let counts = c.args.checked.counts in
    ap {B = TagAnswer} (λ (n : ℕ). record { number = n; whole = counts.whole; four = counts.four }) c.told.ensures
