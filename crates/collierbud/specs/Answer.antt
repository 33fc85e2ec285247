-- What the exported calls answer, for every input: the key call's answer first, and then the call's under the key set that was made.
-- Assumes nothing.
use Rattle.std.specs.Prelude.{List, [], ◌∷◌, ℕ, eqb, length}
use Rattle.laws.specs.Fault.{unless, first_fault}
use Rattle.laws.specs.Pick.{pick}
use Rattle.keys.specs.declared.KeyAnswer.{KeyAnswer}
use Rattle.numbers.specs.Numbers.{done, bad_size}
use Rattle.tag.specs.declared.TagAnswer.{TagAnswer}
use Rattle.tag.specs.Answer.{refused_tag}
use Rattle.message.specs.Answer.{tag_answer, tag_slice, verdict}
use Rattle.frame.specs.declared.FrameAnswer.{FrameAnswer}
use Rattle.frame.specs.Frame.{refused_frame, frame_answer}

-- the number of the first fault before the call under the key set: that of the key call, and then 3, the slice for the counts has not
-- just n places
unfoldable pub start_number : ℕ → ℕ → ℕ → ℕ
start_number number n places = first_fault (number ∷ unless (eqb places n) bad_size ∷ [])

-- what is answered: that of the call, or where there is a fault before, its refusal
unfoldable pub unless_refused : {A : Type 0} → ℕ → A → (ℕ → A) → A
unless_refused number answer refusal = pick (eqb number done) answer (refusal number)

-- making a tag, in a space of n bytes
unfoldable pub tagging : KeyAnswer → ℕ → List ℕ → ℕ → TagAnswer
tagging made places message n = unless_refused (start_number made.number 2 places) (tag_answer made.keys message n) refused_tag

-- and what the space holds then: where it is refused, what it held
unfoldable pub tagged_space : KeyAnswer → ℕ → List ℕ → List ℕ → List ℕ
tagged_space made places message space =
    unless_refused (start_number made.number 2 places) (tag_slice made.keys message space) (λ _. space)

-- checking against a received tag
unfoldable pub checking : KeyAnswer → ℕ → List ℕ → List ℕ → TagAnswer
checking made places message received =
    unless_refused (start_number made.number 2 places) (verdict made.keys message received) refused_tag

-- judging a frame
unfoldable pub opening : KeyAnswer → ℕ → List ℕ → FrameAnswer
opening made places frame = unless_refused (start_number made.number 3 places) (frame_answer made.keys frame) refused_frame

-- what the slice for the counts holds then: the whole-cipher steps and the four-round steps, where it has just two places, otherwise what
-- it held
unfoldable pub two_counts : TagAnswer → List ℕ → List ℕ
two_counts a counts = pick (eqb (length counts) 2) (a.whole ∷ a.four ∷ []) counts

-- of a frame: the steps of each kind and the body's length, where it has just three places, otherwise what it held
unfoldable pub three_counts : FrameAnswer → List ℕ → List ℕ
three_counts a counts = pick (eqb (length counts) 3) (a.whole ∷ a.four ∷ a.body ∷ []) counts
