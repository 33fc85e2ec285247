-- The text of an answer, from the bytes that were encoded and the line feed behind them; and how long it is.
-- Assumes nothing.
use Rattle.std.proofs.Common.{◌≡◌, ap, sym, ◌∙◌, List, [], ◌∷◌, ◌++◌, ℕ, ◌/◌, ◌%◌, ◌≤◌, ◌<◌, arith, length, get_or, drop, set}
use Rattle.std.proofs.Common.{length-append, Ok, Err, ◌+◌, length-drop}
use Rattle.std.proofs.Math.Seq.{get_or_at}
use Rattle.laws.proofs.BigEndian.{big_length, big_one, big_byte, big_four}
use Rattle.numbers.specs.declared.Refusal.{Refusal}
use Rattle.hex_line.specs.Told.{told_line}
use Rattle.hex_line.specs.Line.{encoded}
use Rattle.hex_line.specs.Promise.{EncodePromise}
use Rattle.hex_line.proofs.BothWays.{encoded_length}
use Rattle.hex_line.proofs.Told.{encoded_before, encoded_all, encoded_refused}
use Rattle.lines.specs.Lines.{line_feed}
use Rattle.lines.proofs.Telling.{text_tells, fed_behind}
use Rattle.frame.specs.declared.FrameAnswer.{FrameAnswer}
use Rattle.answer.specs.Text.{text_length, answer_bytes, text_of}
use Rattle.answer.specs.Promise.{TellPromise}

-- ten bytes
bytes_length : (a : FrameAnswer) → length (answer_bytes a) ≡ 10
unfolding answer_bytes
bytes_length a =
    let n₁ = big_length 1 a.number in
    let n₂ = big_length 4 a.whole in
    let n₃ = big_length 4 a.four in
    let n₄ = big_length 1 a.body in
    rw (length-append, length-append, length-append) (omega arith)

-- each of them, of a number that is a byte
pub bytes_are : (a : FrameAnswer) → a.number < 256
    → a.number ∷ a.whole / 16777216 % 256 ∷ a.whole / 65536 % 256 ∷ a.whole / 256 % 256 ∷ a.whole % 256
    ∷ a.four / 16777216 % 256 ∷ a.four / 65536 % 256 ∷ a.four / 256 % 256 ∷ a.four % 256 ∷ a.body % 256 ∷ []
    ≡ answer_bytes a
unfolding answer_bytes
bytes_are a h =
    λ i. big_byte a.number h i ++ big_four a.whole i ++ big_four a.four i ++ big_one a.body i

-- an answer's text has twenty-one bytes
pub text_length_is : (a : FrameAnswer) → length (text_of a) ≡ text_length
unfolding text_of
text_length_is a =
    length-append (encoded (answer_bytes a)) (line_feed ∷ []) ∙ omega (arith, encoded_length (answer_bytes a), bytes_length a)

-- and ends with its line feed
pub text_feed : (a : FrameAnswer) → get_or (text_of a) 20 0 ≡ line_feed
unfolding text_of
text_feed a = get_or_at (encoded (answer_bytes a)) line_feed [] 0 20 (omega (arith, encoded_length (answer_bytes a), bytes_length a))

-- the bytes are encoded, and a line feed is stored behind their characters
module _ (a : FrameAnswer) (bytes space : List ℕ) (e : bytes ≡ answer_bytes a) (room : text_length ≤ length space) where
  ten : length bytes ≡ 10
  ten = ap length e ∙ bytes_length a

  pub unencoded : (why : Refusal) (written : List ℕ) → EncodePromise bytes space (told_line (Err why)) written → ⊥
  unencoded why written p = encoded_refused bytes space (omega (arith, ten)) why p

  module _ (n : ℕ) (written : List ℕ) (p : EncodePromise bytes space (told_line (Ok n)) written) where
    pub twenty : n ≡ 20
    twenty = encoded_all bytes space (omega (arith, ten)) n p ∙ omega (arith, ten)

    laid : written ≡ encoded bytes ++ drop 20 space
    laid =
        let m : length (encoded bytes) ≡ 20 = omega (arith, encoded_length bytes, ten) in
        encoded_before bytes space (omega (arith, ten)) p ∙ ap (λ (k : ℕ). encoded bytes ++ drop k space) m

    pub feed_within : n < length written
    feed_within =
        let size = ap length laid ∙ length-append (encoded bytes) (drop 20 space) in
        omega (arith, length-drop 20 space, encoded_length bytes, ten, twenty)

    pub tells_encoded : TellPromise a space (n + 1) (set written n line_feed)
    unfolding text_of
    tells_encoded =
        let m : n ≡ length (encoded bytes) = omega (arith, encoded_length bytes, ten, twenty) in
        text_tells text_length (text_of a) space room (omega (arith, twenty, text_length_is a))
        (fed_behind (encoded bytes) space m (omega (arith, twenty)) (laid ∙ ap (λ (k : ℕ). encoded bytes ++ drop k space) (sym twenty))
        ∙ ap (λ (x : List ℕ). (encoded x ++ (line_feed ∷ [])) ++ drop (n + 1) space) e)
