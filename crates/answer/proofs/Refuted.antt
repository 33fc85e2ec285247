-- Wrong outcomes that the promises do not permit.
-- Assumes nothing.
use Rattle.std.proofs.Common.{◌≡◌, ap, sym, ◌∙◌, false, List, ◌++◌, ℕ, ◌≤◌, ◌<◌, arith, length, get_or, drop, get_or-take}
use Rattle.std.proofs.Math.Seq.{take-append_seam}
use Rattle.laws.proofs.Fault.{unless_fails}
use Rattle.keys.specs.declared.KeySet.{KeySet}
use Rattle.laws.specs.BigEndian.{big_endian}
use Rattle.hex_line.specs.Line.{is_hex, encoded}
use Rattle.hex_line.proofs.Outcome.{number_rest}
use Rattle.lines.specs.Lines.{line_feed}
use Rattle.lines.proofs.Telling.{tells_text, tells_nothing}
use Rattle.frame.specs.declared.FrameAnswer.{FrameAnswer}
use Rattle.frame.specs.Frame.{refused_frame}
use Rattle.answer.specs.Text.{answer_bytes, text_of}
use Rattle.answer.specs.Promise.{OfLinePromise, TellPromise, tell_once}
use Rattle.answer.proofs.Answered.{answer_refused}
use Rattle.answer.proofs.Spelt.{text_length_is, text_feed}

-- a fault of the frame, which is 8, judged before that of its line
pub frame_before_line : (k : KeySet) (line : List ℕ) (r : FrameAnswer) → length line ≤ 510 → is_hex line ≡ false
    → OfLinePromise k line r → r.number ≡ 8 → ⊥
unfolding refused_frame
frame_before_line k line r h e p z =
    let nine = answer_refused k line (number_rest 255 line (omega arith) h (unless_fails 9 e)) (λ q. omega arith) in
    let n : r.number ≡ 9 = ap (λ (x : FrameAnswer). x.number) (p ∙ sym nine) in
    omega arith

-- the answer to a frame with a body of ten bytes
abbrev sample : FrameAnswer
sample = record { number = 0; whole = 1; four = 0; body = 10 }

sample_told : (space : List ℕ) {r : ℕ} {after : List ℕ} (i : ℕ) → 21 ≤ length space → TellPromise sample space r after
    → get_or after i 0 ≡ get_or (text_of sample ++ drop (length (text_of sample)) space) i 0
sample_told space i h p = ap (λ (l : List ℕ). get_or l i 0) (tells_text 21 (text_of sample) space h p).1

-- a letter in lower case: the last digit of its body's length
pub lower_case_written : (space : List ℕ) (r : ℕ) (after : List ℕ) → 21 ≤ length space → TellPromise sample space r after
    → get_or after 19 0 ≡ 97 → ⊥
unfolding text_of answer_bytes big_endian encoded
lower_case_written space r after h p z = let n : get_or after 19 0 ≡ 65 = sample_told space 19 h p in omega arith

-- a text that is laid one byte late: the last digit of its whole-cipher steps is the tenth character, and not the eleventh
pub text_one_late : (space : List ℕ) (r : ℕ) (after : List ℕ) → 21 ≤ length space → TellPromise sample space r after
    → get_or after 10 0 ≡ 49 → ⊥
unfolding text_of answer_bytes big_endian encoded
text_one_late space r after h p z = let n : get_or after 10 0 ≡ 48 = sample_told space 10 h p in omega arith

-- a text without its line feed: another byte stands where it belongs
pub line_feed_lost : (a : FrameAnswer) (space : List ℕ) (r : ℕ) (after : List ℕ) → 21 ≤ length space → TellPromise a space r after
    → (get_or after 20 0 ≡ line_feed → ⊥) → ⊥
line_feed_lost a space r after h p w =
    let t = (tells_text 21 (text_of a) space h p).1 in
    let n : 20 < length (text_of a) = omega (arith, text_length_is a) in
    w (ap (λ (l : List ℕ). get_or l 20 0) t ∙ get_d_front (text_of a) (drop (length (text_of a)) space) 20 n ∙ text_feed a)
  where
    get_d_front : (x y : List ℕ) (i : ℕ) → i < length x → get_or (x ++ y) i 0 ≡ get_or x i 0
    get_d_front x y i h = sym (get_or-take (length x) (x ++ y) i 0 h) ∙ ap (λ (l : List ℕ). get_or l i 0) (take-append_seam x y)

-- a text that is cut, in a space that has no room for it
pub text_cut : (a : FrameAnswer) (space : List ℕ) (r : ℕ) (after : List ℕ) → length space < 21 → TellPromise a space r after
    → 1 ≤ r → ⊥
text_cut a space r after h p k =
    omega (arith, (tell_once a space r 0 after space p (tells_nothing 21 (text_of a) space h)).0)
