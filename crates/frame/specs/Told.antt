-- The verdict on a frame, told as the outline tells it: its number, its counts, and how long its body is, 0 where it has none.
-- Assumes nothing.
use Rattle.std.specs.Prelude.{◌≡◌, Result, Ok, Err, ℕ}
use Rattle.std.specs.Result.{result_unwrap_or}
use Rattle.std.proofs.Common.{ap, sym}
use Rattle.numbers.specs.declared.Refusal.{Refusal}
use Rattle.numbers.specs.Told.{number}
use Rattle.numbers.proofs.Number.{not_done, number_of_once}
use Rattle.frame.specs.declared.FrameAnswer.{FrameAnswer}
use Rattle.frame.specs.declared.Judged.{Judged}

-- the number of its body's outcome, the counts, and the body's length
unfoldable pub told_frame : Judged → FrameAnswer
told_frame judged = record {
  number = number judged.body;
  whole = judged.counts.whole;
  four = judged.counts.four;
  body = result_unwrap_or judged.body 0;
}

-- a body's outcome by its number and its length
body_once : (r r' : Result ℕ Refusal) → number r ≡ number r' → result_unwrap_or r 0 ≡ result_unwrap_or r' 0 → r ≡ r'
unfolding number
body_once (Ok n) (Ok m) e l = ap Ok l
body_once (Ok n) (Err why) e l = absurd (not_done why (sym e))
body_once (Err why) (Ok n) e l = absurd (not_done why e)
body_once (Err why) (Err why') e l = ap Err (number_of_once why why' e)

-- what is told alike is alike
pub told_frame_once : (r r' : Judged) → told_frame r ≡ told_frame r' → r ≡ r'
unfolding told_frame
told_frame_once r r' e =
    let b = body_once r.body r'.body (ap (λ (a : FrameAnswer). a.number) e) (ap (λ (a : FrameAnswer). a.body) e) in
    λ i. record { body = b i; counts = record { whole = (e i).whole; four = (e i).four } }
