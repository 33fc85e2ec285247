-- Hexadecimal both ways: decoding what was encoded gives the bytes, encoding what a line decodes to gives the line, and what is decoded
-- is bytes, below 256; how long each is, and what stands where.
-- Assumes nothing.
use Rattle.std.proofs.Common.{◌≡◌, refl, ap, ap₂, sym, ◌∙◌, true, ⊎_elim, List, [], ◌∷◌, ◌++◌, ℕ, zero, suc, ◌+◌, ◌*◌, ◌/◌, ◌%◌, ◌≤◌, ◌<◌}
use Rattle.std.proofs.Common.{not-suc-le-zero, le_of_suc-le-suc, arith, length, get_or, ext_get_or, eq-eqb}
use Rattle.std.proofs.Math.ListN.{get_or-eq_default}
use Rattle.laws.proofs.Agree.{table_length, table_at}
use Rattle.laws.proofs.Bytes.{Bytes}
use Rattle.laws.proofs.Cases.{below_or_not}
use Rattle.hex_line.specs.Digit.{is_digit, value_of, character_of}
use Rattle.hex_line.specs.Line.{all_digits, is_hex, byte_at, decoded, encoded}
use Rattle.hex_line.proofs.Digits.{value_small, character_value, value_character, character_digit}
use Rattle.hex_line.proofs.Judging.{hex}

-- a byte for each pair
module _ (line : List ℕ) where
  pub decoded_length : length (decoded line) ≡ length line / 2
  unfolding decoded
  decoded_length = table_length (byte_at line) (length line / 2)

  pub decoded_at : (i : ℕ) → i < length line / 2 → get_or (decoded line) i 0 ≡ byte_at line i
  unfolding decoded
  decoded_at i h = table_at (byte_at line) (length line / 2) i h

  -- what is decoded is bytes, below 256, of every line
  pub decoded_bytes : Bytes (decoded line)
  decoded_bytes i = record { fits = ⊎_elim within behind (below_or_not i (length line / 2)) }
    where
      within : i < length line / 2 → get_or (decoded line) i 0 < 256
      within h =
          rw (decoded_at i h)
          (omega (arith, value_small (get_or line (2 * i) 0), value_small (get_or line (2 * i + 1) 0)))

      behind : length line / 2 ≤ i → get_or (decoded line) i 0 < 256
      behind h =
          let n : length (decoded line) ≤ i = omega (arith, decoded_length) in
          omega (arith, get_or-eq_default (decoded line) 0 n)

  -- of a line that is pairs of digits, from its two characters
  pub decoded_pair : is_hex line ≡ true → (i : ℕ) → i < length line / 2 → {b : ℕ}
      → (is_digit (get_or line (2 * i) 0) ≡ true → is_digit (get_or line (2 * i + 1) 0) ≡ true → b ≡ byte_at line i)
      → b ≡ get_or (decoded line) i 0
  decoded_pair e i h made =
      let f = hex line e in
      made (f.digits (2 * i) (omega arith)) (f.digits (2 * i + 1) (omega arith)) ∙ sym (decoded_at i h)

-- by its first pair: their byte, and then those of the others
pub decoded_first : (a b : ℕ) (rest : List ℕ) → decoded (a ∷ b ∷ rest) ≡ (16 * value_of a + value_of b) ∷ decoded rest
decoded_first a b rest =
    let n : length (a ∷ b ∷ rest) / 2 ≡ suc (length rest / 2) = omega arith in
    ext_get_or 0 (decoded (a ∷ b ∷ rest)) ((16 * value_of a + value_of b) ∷ decoded rest)
    (decoded_length (a ∷ b ∷ rest) ∙ n ∙ ap suc (sym (decoded_length rest)))
    (λ i h. at i (rw (decoded_length (a ∷ b ∷ rest)) at h))
  where
    at : (i : ℕ) → i < length (a ∷ b ∷ rest) / 2
        → get_or (decoded (a ∷ b ∷ rest)) i 0 ≡ get_or ((16 * value_of a + value_of b) ∷ decoded rest) i 0
    at zero h = decoded_at (a ∷ b ∷ rest) 0 h
    at (suc i) h =
        let high : 2 * suc i ≡ suc (suc (2 * i)) = omega arith in
        let low : suc (suc (2 * i)) + 1 ≡ suc (suc (2 * i + 1)) = omega arith in
        let b' : i < length rest / 2 = omega arith in
        decoded_at (a ∷ b ∷ rest) (suc i) h ∙ rw (high, low) (sym (decoded_at rest i b'))

-- two characters for each byte
pub encoded_length : (bs : List ℕ) → length (encoded bs) ≡ 2 * length bs
unfolding encoded
encoded_length [] = refl
encoded_length (b ∷ bs) = omega (arith, encoded_length bs)

-- those of some bytes and then of others
pub encoded_append : (a b : List ℕ) → encoded (a ++ b) ≡ encoded a ++ encoded b
unfolding encoded
encoded_append [] b = refl
encoded_append (x ∷ a) b = ap (λ (y : List ℕ). character_of (x / 16) ∷ character_of (x % 16) ∷ y) (encoded_append a b)

pub encoded_high : (bs : List ℕ) (i : ℕ) → i < length bs → get_or (encoded bs) (2 * i) 0 ≡ character_of (get_or bs i 0 / 16)
unfolding encoded
encoded_high [] i h = absurd (not-suc-le-zero h)
encoded_high (b ∷ bs) zero h = refl
encoded_high (b ∷ bs) (suc i) h =
    let e : 2 * suc i ≡ suc (suc (2 * i)) = omega arith in
    rw e (encoded_high bs i (le_of_suc-le-suc h))

pub encoded_low : (bs : List ℕ) (i : ℕ) → i < length bs → get_or (encoded bs) (2 * i + 1) 0 ≡ character_of (get_or bs i 0 % 16)
unfolding encoded
encoded_low [] i h = absurd (not-suc-le-zero h)
encoded_low (b ∷ bs) zero h = refl
encoded_low (b ∷ bs) (suc i) h =
    let e : 2 * suc i + 1 ≡ suc (suc (2 * i + 1)) = omega arith in
    rw e (encoded_low bs i (le_of_suc-le-suc h))

-- bytes are encoded to pairs of digits
digits_encoded : (bs : List ℕ) → Bytes bs → all_digits (encoded bs) ≡ true
unfolding all_digits encoded
digits_encoded [] h = refl
digits_encoded (b ∷ bs) h =
    let byte : b < 256 = (h 0).fits in
    rw (character_digit (b / 16) (omega arith), character_digit (b % 16) (omega arith)) (digits_encoded bs (λ i. h (suc i)))

pub encoded_hex : (bs : List ℕ) → Bytes bs → is_hex (encoded bs) ≡ true
unfolding is_hex
encoded_hex bs h =
    rw (eq-eqb (length (encoded bs) % 2) 0 (omega (arith, encoded_length bs))) (digits_encoded bs h)

-- DECODING WHAT WAS ENCODED gives the bytes
pub decoded_encoded : (bs : List ℕ) → Bytes bs → decoded (encoded bs) ≡ bs
decoded_encoded bs h =
    let n : length (encoded bs) / 2 ≡ length bs = omega (arith, encoded_length bs) in
    ext_get_or 0 (decoded (encoded bs)) bs (decoded_length (encoded bs) ∙ n)
    (λ i b.
    let b' : i < length bs = rw (decoded_length (encoded bs), n) at b in
    let byte = (h i).fits in
    let high = encoded_high bs i b' in
    let low = encoded_low bs i b' in
    decoded_at (encoded bs) i (rw n b')
    ∙ ap₂ (λ (x y : ℕ). 16 * x + y)
    (ap value_of high ∙ value_character (get_or bs i 0 / 16) (omega arith))
    (ap value_of low ∙ value_character (get_or bs i 0 % 16) (omega arith))
    ∙ omega arith)

-- ENCODING WHAT A LINE DECODES TO gives the line, for every line that is pairs of digits
module _ (line : List ℕ) (e : is_hex line ≡ true) (i : ℕ) (h : i < length line / 2) where
  within : i < length (decoded line)
  within = rw (decoded_length line) h

  high_again : get_or (encoded (decoded line)) (2 * i) 0 ≡ get_or line (2 * i) 0
  high_again =
      let low = value_small (get_or line (2 * i + 1) 0) in
      let q : byte_at line i / 16 ≡ value_of (get_or line (2 * i) 0) = omega arith in
      encoded_high (decoded line) i within ∙ ap (λ (b : ℕ). character_of (b / 16)) (decoded_at line i h) ∙ ap character_of q
      ∙ character_value (get_or line (2 * i) 0) ((hex line e).digits (2 * i) (omega arith))

  low_again : get_or (encoded (decoded line)) (2 * i + 1) 0 ≡ get_or line (2 * i + 1) 0
  low_again =
      let low = value_small (get_or line (2 * i + 1) 0) in
      let q : byte_at line i % 16 ≡ value_of (get_or line (2 * i + 1) 0) = omega arith in
      encoded_low (decoded line) i within ∙ ap (λ (b : ℕ). character_of (b % 16)) (decoded_at line i h) ∙ ap character_of q
      ∙ character_value (get_or line (2 * i + 1) 0) ((hex line e).digits (2 * i + 1) (omega arith))

pub encoded_decoded : (line : List ℕ) → is_hex line ≡ true → encoded (decoded line) ≡ line
encoded_decoded line e =
    let even = (hex line e).even in
    let n : length (encoded (decoded line)) ≡ length line = omega (arith, encoded_length (decoded line), decoded_length line) in
    ext_get_or 0 (encoded (decoded line)) line n (λ k b. at k (rw n at b) (k % 2) refl)
  where
    at : (k : ℕ) → k < length line → (half : ℕ) → k % 2 ≡ half → get_or (encoded (decoded line)) k 0 ≡ get_or line k 0
    at k b zero q =
        let even = (hex line e).even in
        let z : 2 * (k / 2) ≡ k = omega arith in
        rw z at (high_again line e (k / 2) (omega arith))
    at k b (suc half) q =
        let even = (hex line e).even in
        let z : 2 * (k / 2) + 1 ≡ k = omega arith in
        rw z at (low_again line e (k / 2) (omega arith))
