-- The verdict on a frame line, by what decoding it answers.
-- Assumes nothing.
use Rattle.std.proofs.Common.{◌≡◌, ap, sym, ◌∙◌, List, ℕ, length, take, ne_eqb, refl, Ok, Err}
use Rattle.keys.specs.declared.KeySet.{KeySet}
use Rattle.numbers.specs.declared.Refusal.{Refusal}
use Rattle.numbers.specs.Told.{number_of}
use Rattle.numbers.proofs.Number.{not_done}
use Rattle.hex_line.specs.Told.{told_line}
use Rattle.hex_line.specs.Answer.{decode_number}
use Rattle.hex_line.specs.Promise.{DecodePromise}
use Rattle.hex_line.proofs.Told.{is_written, least_number}
use Rattle.frame.specs.declared.FrameAnswer.{FrameAnswer}
use Rattle.frame.specs.Frame.{refused_frame, frame_answer}
use Rattle.answer.specs.Line.{line_answer}

-- a line that does not decode is answered by its number
pub answer_refused : (k : KeySet) (line : List ℕ) {n : ℕ} → n ≡ decode_number 255 line → (n ≡ 0 → ⊥) → refused_frame n ≡ line_answer k line
unfolding line_answer
answer_refused k line e h = rw (ne_eqb (decode_number 255 line) 0 (λ z. h (e ∙ z))) (ap refused_frame e)

-- it is decoded into a space
module _ (k : KeySet) (line space : List ℕ) {after : List ℕ} (size : length space ≡ 255) where
  pub line_refused : {r : FrameAnswer} (why : Refusal) → DecodePromise line space (told_line (Err why)) after
      → r ≡ refused_frame (number_of why) → r ≡ line_answer k line
  unfolding told_line
  line_refused why p e = e ∙ answer_refused k line (sym (least_number line space size p)) (not_done why)

  pub line_judged : {r : FrameAnswer} (n : ℕ) → DecodePromise line space (told_line (Ok n)) after
      → r ≡ frame_answer k (take n after) → r ≡ line_answer k line
  unfolding told_line line_answer
  line_judged n p e =
      rw (least_number line space size p) (e ∙ ap (frame_answer k) (is_written line space p refl).front)
