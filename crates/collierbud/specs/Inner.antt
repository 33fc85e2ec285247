-- What the inner functions hand back. No promise speaks of it, and no reader need believe it.
-- Assumes nothing.
use Rattle.std.specs.Prelude.{◌≡◌, Result, Ok, Err, MatchResult, List, ℕ, eqb, length}
use Rattle.laws.specs.Pick.{pick}
use Rattle.numbers.specs.declared.Refusal.{Refusal}
use Rattle.numbers.specs.Told.{number_of}
use Rattle.keys.specs.declared.KeySet.{KeySet}
use Rattle.keys.specs.declared.KeyAnswer.{KeyAnswer}
use Rattle.tag.specs.declared.TagAnswer.{TagAnswer}
use Rattle.tag.specs.Answer.{refused_tag}
use Rattle.message.specs.Answer.{tag_answer, tag_slice, verdict}
use Rattle.frame.specs.declared.FrameAnswer.{FrameAnswer}
use Rattle.frame.specs.Frame.{refused_frame, frame_answer}
use Rattle.collierbud.specs.Answer.{start_number}

-- the key set that was made, where there is no fault before the call, or the first fault
abbrev pub Starts : KeyAnswer → ℕ → ℕ → Result KeySet Refusal → Type 0
Starts made n places r =
    MatchResult r (λ keys. (start_number made.number n places ≡ 0) × (keys ≡ made.keys))
    (λ why. number_of why ≡ start_number made.number n places)

-- what the calls give from there: that of the key set, or the fault's refusal
unfoldable pub from_start : {A : Type 0} → Result KeySet Refusal → (KeySet → A) → (ℕ → A) → A
from_start (Ok keys) answer refusal = answer keys
from_start (Err why) answer refusal = refusal (number_of why)

-- making a tag, in a space of n bytes
abbrev pub tagged_from : Result KeySet Refusal → List ℕ → ℕ → TagAnswer
tagged_from r message n = from_start r (λ keys. tag_answer keys message n) refused_tag

-- and what the space holds then: where it is refused, what it held
abbrev pub space_from : Result KeySet Refusal → List ℕ → List ℕ → List ℕ
space_from r message space = from_start r (λ keys. tag_slice keys message space) (λ _. space)

-- checking against a received tag
abbrev pub checked_from : Result KeySet Refusal → List ℕ → List ℕ → TagAnswer
checked_from r message received = from_start r (λ keys. verdict keys message received) refused_tag

-- judging a frame
abbrev pub opened_from : Result KeySet Refusal → List ℕ → FrameAnswer
opened_from r frame = from_start r (λ keys. frame_answer keys frame) refused_frame

-- numbers over a slice of just as many, otherwise what it held
unfoldable pub counted : List ℕ → List ℕ → List ℕ
counted told counts = pick (eqb (length counts) (length told)) told counts
