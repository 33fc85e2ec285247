-- Wrong outcomes that the promises do not permit.
-- Assumes nothing.
use Rattle.std.proofs.Common.{◌≡◌, ap, sym, ◌∙◌, false, List, [], ◌∷◌, ◌++◌, ℕ, ◌+◌, ◌-◌, ◌*◌, ◌/◌, ◌%◌, ◌≤◌, ◌<◌, arith, length, get_or}
use Rattle.std.proofs.Common.{drop, get_or-append-add, get_or-drop, le-leb, None, Some}
use Rattle.std.proofs.Math.ListN.{get_or-append}
use borrow.Author.Tests.{lt-leb}
use Rattle.laws.proofs.Fault.{unless_fails}
use Rattle.hex_line.specs.declared.LineAnswer.{LineAnswer}
use Rattle.hex_line.specs.Digit.{digit_of, read_value, is_digit, character_of}
use Rattle.hex_line.specs.Line.{is_hex, byte_at, decoded, encoded}
use Rattle.hex_line.specs.Answer.{encode_number}
use Rattle.hex_line.specs.Promise.{DigitPromise, DecodePromise, EncodePromise}
use Rattle.hex_line.proofs.BothWays.{decoded_length, decoded_at, encoded_length, encoded_high, encoded_low}
use Rattle.hex_line.proofs.Digits.{beyond}
use Rattle.hex_line.proofs.Judging.{hex}
use Rattle.hex_line.proofs.Outcome.{number_size, number_length, number_rest, number_room, number_cramped}
use Rattle.hex_line.proofs.Told.{number_by, written_by, unwritten, number_is, is_written, is_unwritten}

-- a character that is no digit has a value
none_with_value : (c v : ℕ) → digit_of c ≡ None → DigitPromise c (Some v) → ⊥
none_with_value c v e p = let z : ◌≡◌ {A = ℕ} 0 1 = cc in omega arith

-- `/` or a character before it is taken
pub before_zero : (c v : ℕ) → c < 48 → DigitPromise c (Some v) → ⊥
unfolding digit_of
before_zero c v h p = none_with_value c v (rw (lt-leb 48 c h, lt-leb 65 c (omega arith))) p

-- `:` or `@` or one between them is taken
pub between_nine_and_a : (c v : ℕ) → 57 < c → c < 65 → DigitPromise c (Some v) → ⊥
unfolding digit_of
between_nine_and_a c v h l p = none_with_value c v (rw (le-leb 48 c (omega arith), lt-leb c 57 h, lt-leb 65 c l)) p

-- `G` or a character behind it, as the lower case letters are, is taken
pub letter_beyond : (c v : ℕ) → 71 ≤ c → DigitPromise c (Some v) → ⊥
letter_beyond c v h p = none_with_value c v (beyond c h) p

-- A that stands for another number than ten
pub a_not_ten : (v : ℕ) → (v ≡ 10 → ⊥) → DigitPromise 65 (Some v) → ⊥
unfolding digit_of read_value
a_not_ten v h p = h (ap read_value p)

-- what stands behind a list that was laid over the front
behind : (x space : List ℕ) (k : ℕ) → length x ≤ k → get_or (x ++ drop (length x) space) k 0 ≡ get_or space k 0
behind x space k h =
    let n = length x in
    let e : n + (k - n) ≡ k = omega arith in
    ap (λ (j : ℕ). get_or (x ++ drop n space) j 0) (sym e) ∙ get_or-append-add x (drop n space) (k - n) 0
    ∙ get_or-drop n space (k - n) 0 ∙ ap (λ (j : ℕ). get_or space j 0) e

-- decoding
module _ (line space : List ℕ) (r : LineAnswer) (after : List ℕ) (p : DecodePromise line space r after) where
  -- a refusal that has written
  pub refusal_writes : (r.number ≡ 0 → ⊥) → (after ≡ space → ⊥) → ⊥
  refusal_writes h w = w (is_unwritten line space p h).0

  -- a refusal that counts bytes
  pub refusal_counts : (r.number ≡ 0 → ⊥) → 1 ≤ r.written → ⊥
  refusal_counts h w = omega (arith, (is_unwritten line space p h).1)

  -- a line of more than 510 characters that is taken, or refused for another fault
  pub long_line_taken : 255 ≤ length space → 510 < length line → (r.number ≡ 8 → ⊥) → ⊥
  long_line_taken room h w = w (number_is line space p ∙ sym (number_length (length space) line room h))

  -- one that is no hexadecimal, refused for its length
  pub not_hex_is_length : 255 ≤ length space → length line ≤ 510 → is_hex line ≡ false → r.number ≡ 8 → ⊥
  not_hex_is_length room h x z =
      let n = number_rest (length space) line room h (unless_fails 9 x) in
      omega (arith, number_is line space p)

  -- a small space that is taken, or refused for another fault, of the line
  pub line_before_space : length space < 255 → (r.number ≡ 3 → ⊥) → ⊥
  line_before_space h w = w (number_is line space p ∙ sym (number_size (length space) line h))

  module _ (done : r.number ≡ 0) where
    -- a line that is taken with a character left over
    pub odd_taken : length line % 2 ≡ 1 → ⊥
    odd_taken h = omega (arith, (hex line (is_written line space p done).may.hex).even)

    -- a line that is taken with a character that is no digit, the last as any: its fault was not gathered
    pub fault_not_gathered : (k : ℕ) → k < length line → is_digit (get_or line k 0) ≡ false → ⊥
    fault_not_gathered k h e =
        let d = (hex line (is_written line space p done).may.hex).digits k h in
        let z : ◌≡◌ {A = ℕ} 0 1 = cc in
        omega arith

    -- a byte that is not counted, as the last
    pub byte_uncounted : r.written < length line / 2 → ⊥
    byte_uncounted h = omega (arith, (is_written line space p done).count)

    -- a byte that is lost, the last as any
    pub byte_lost : (k : ℕ) → k < length line / 2 → (get_or after k 0 ≡ byte_at line k → ⊥) → ⊥
    byte_lost k h w =
        let inside : k < length (decoded line) = rw (decoded_length line) h in
        w
        (ap (λ (l : List ℕ). get_or l k 0) (is_written line space p done).laid
        ∙ get_or-append (decoded line) (drop (length (decoded line)) space) 0 k inside ∙ decoded_at line k h)

    -- a byte behind the line's that is touched
    pub byte_behind : (k : ℕ) → length line / 2 ≤ k → (get_or after k 0 ≡ get_or space k 0 → ⊥) → ⊥
    byte_behind k h w =
        w
        (ap (λ (l : List ℕ). get_or l k 0) (is_written line space p done).laid
        ∙ behind (decoded line) space k (omega (arith, decoded_length line)))

-- 1F that is decoded as F1, its low half first
pub low_half_first : (space : List ℕ) (r : LineAnswer) (after : List ℕ) → DecodePromise (49 ∷ 70 ∷ []) space r after
    → r.number ≡ 0 → get_or after 0 0 ≡ 241 → ⊥
unfolding digit_of read_value
low_half_first space r after p z e =
    byte_lost (49 ∷ 70 ∷ []) space r after p z 0 (omega arith) (λ q. let n : get_or after 0 0 ≡ 31 = q in omega arith)

-- encoding
module _ (bytes space : List ℕ) (r : LineAnswer) (after : List ℕ) (p : EncodePromise bytes space r after) where
  number : r.number ≡ encode_number (length space) bytes
  number = number_by (encode_number (length space) bytes) (encoded bytes) space p

  -- a refusal that has written
  pub refused_encoding_writes : (r.number ≡ 0 → ⊥) → (after ≡ space → ⊥) → ⊥
  refused_encoding_writes h w = w (unwritten (encode_number (length space) bytes) (encoded bytes) space p h).0

  -- a space that is too small, by one character as by more, and is taken
  pub cramped_space_taken : length space < 2 * length bytes → r.number ≡ 0 → ⊥
  cramped_space_taken h z = omega (arith, number, number_cramped (length space) bytes h)

  -- one that is just large enough, and is refused
  pub just_enough_refused : 2 * length bytes ≤ length space → (r.number ≡ 0 → ⊥) → ⊥
  just_enough_refused h w = w (number ∙ sym (number_room (length space) bytes h))

  module _ (room : 2 * length bytes ≤ length space) where
    is_laid : after ≡ encoded bytes ++ drop (length (encoded bytes)) space
    is_laid =
        (written_by (encode_number (length space) bytes) (encoded bytes) space p (sym (number_room (length space) bytes room))).1

    character_at : (k : ℕ) → k < 2 * length bytes → get_or after k 0 ≡ get_or (encoded bytes) k 0
    character_at k h =
        ap (λ (l : List ℕ). get_or l k 0) is_laid
        ∙ get_or-append (encoded bytes) (drop (length (encoded bytes)) space) 0 k (omega (arith, encoded_length bytes))

    -- a byte with another character for its high half, or for its low half: a letter in lower case as any
    pub high_half_misspelt : (k : ℕ) → k < length bytes → (get_or after (2 * k) 0 ≡ character_of (get_or bytes k 0 / 16) → ⊥) → ⊥
    high_half_misspelt k h w = w (character_at (2 * k) (omega arith) ∙ encoded_high bytes k h)

    pub low_half_misspelt : (k : ℕ) → k < length bytes → (get_or after (2 * k + 1) 0 ≡ character_of (get_or bytes k 0 % 16) → ⊥) → ⊥
    low_half_misspelt k h w = w (character_at (2 * k + 1) (omega arith) ∙ encoded_low bytes k h)

    -- a character behind the line that is touched
    pub character_behind : (k : ℕ) → 2 * length bytes ≤ k → (get_or after k 0 ≡ get_or space k 0 → ⊥) → ⊥
    character_behind k h w =
        w
        (ap (λ (l : List ℕ). get_or l k 0) is_laid
        ∙ behind (encoded bytes) space k (omega (arith, encoded_length bytes)))

-- the byte 1A, in a space that is large enough
module _ (space : List ℕ) (r : LineAnswer) (after : List ℕ) (room : 2 ≤ length space) (p : EncodePromise (26 ∷ []) space r after) where
  -- that is written 1a
  pub lower_case_spelt : get_or after 1 0 ≡ 97 → ⊥
  lower_case_spelt e =
      low_half_misspelt (26 ∷ []) space r after p room 0 (omega arith) (λ q. let n : get_or after 1 0 ≡ 65 = q in omega arith)

  -- that is written A1
  pub halves_exchanged_in_writing : get_or after 0 0 ≡ 65 → ⊥
  halves_exchanged_in_writing e =
      high_half_misspelt (26 ∷ []) space r after p room 0 (omega arith) (λ q. let n : get_or after 0 0 ≡ 49 = q in omega arith)
