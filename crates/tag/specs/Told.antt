-- What the calls that make or check a tag hand back, told as the outline tells it: a number and both counts, none where a call refuses.
-- Assumes nothing.
use Rattle.std.specs.Prelude.{◌≡◌, Result, Ok, Err}
use Rattle.std.proofs.Common.{ap, sym}
use Rattle.numbers.specs.Numbers.{done}
use Rattle.numbers.specs.Told.{number, number_of}
use Rattle.numbers.proofs.Number.{not_done, number_of_once, number_once}
use Rattle.numbers.specs.declared.Refusal.{Refusal}
use Rattle.tag.specs.declared.TagAnswer.{TagAnswer}
use Rattle.tag.specs.declared.Counts.{Counts}
use Rattle.tag.specs.declared.Checked.{Checked}

-- of a call that makes a tag: 0 and the counts, or the number of the refusal and none
unfoldable pub told_made : Result Counts Refusal → TagAnswer
told_made (Ok counts) = record { number = done; whole = counts.whole; four = counts.four }
told_made (Err why) = record { number = number_of why; whole = 0; four = 0 }

-- what is told alike is alike
pub told_made_once : (r r' : Result Counts Refusal) → told_made r ≡ told_made r' → r ≡ r'
unfolding told_made
told_made_once (Ok a) (Ok b) e = λ i. Ok (record { whole = (e i).whole; four = (e i).four })
told_made_once (Ok a) (Err why) e = absurd (not_done why (sym (ap (λ (t : TagAnswer). t.number) e)))
told_made_once (Err why) (Ok b) e = absurd (not_done why (ap (λ (t : TagAnswer). t.number) e))
told_made_once (Err why) (Err why') e = ap Err (number_of_once why why' (ap (λ (t : TagAnswer). t.number) e))

-- of a call that checks a tag: the number of its outcome, and its counts
unfoldable pub told_checked : Checked → TagAnswer
told_checked checked = record { number = number checked.outcome; whole = checked.counts.whole; four = checked.counts.four }

-- what is told alike is alike
pub told_checked_once : (r r' : Checked) → told_checked r ≡ told_checked r' → r ≡ r'
unfolding told_checked
told_checked_once r r' e =
    let q = number_once r.outcome r'.outcome (ap (λ (t : TagAnswer). t.number) e) in
    λ i. record { outcome = q i; counts = record { whole = (e i).whole; four = (e i).four } }
