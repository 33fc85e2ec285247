-- The bytes of a line, and the line of bytes, laid at the front of a space: from the start, by one byte more, to the end.
-- Assumes nothing.
use Rattle.std.proofs.Common.{◌≡◌, sym, ◌∙◌, List, ◌++◌, ℕ, ◌+◌, ◌*◌, ◌/◌, ◌%◌, ◌≤◌, ◌<◌, arith, length, get_or, drop, set}
use Rattle.laws.proofs.Laid.{Laid, laid_none, front_put, front_list}
use Rattle.hex_line.specs.Digit.{character_of}
use Rattle.hex_line.specs.Line.{decoded, encoded}
use Rattle.hex_line.proofs.BothWays.{decoded_length, encoded_length, encoded_high, encoded_low}

-- a line's bytes
module _ (line space : List ℕ) where
  pub bytes_none : length line / 2 ≤ length space → Laid (decoded line) space 0 (length line / 2) space 0
  bytes_none h = laid_none (decoded line) space 0 (length line / 2) (omega (arith, decoded_length line)) (omega arith)

  pub bytes_all : {s : List ℕ} {i : ℕ} → Laid (decoded line) space 0 (length line / 2) s i → length line / 2 ≤ i
      → s ≡ decoded line ++ drop (length line / 2) space
  bytes_all {s} {i} w h = front_list w h (decoded_length line)

-- the line of bytes, two characters at a time
module _ (bytes space : List ℕ) where
  pub spelt_none : 2 * length bytes ≤ length space → Laid (encoded bytes) space 0 (2 * length bytes) space (2 * 0)
  spelt_none h = laid_none (encoded bytes) space 0 (2 * length bytes) (omega (arith, encoded_length bytes)) (omega arith)

  pub spelt_more : {s : List ℕ} {i h l : ℕ} → Laid (encoded bytes) space 0 (2 * length bytes) s (2 * i) → i < length bytes
      → h ≡ character_of (get_or bytes i 0 / 16) → l ≡ character_of (get_or bytes i 0 % 16)
      → Laid (encoded bytes) space 0 (2 * length bytes) (set (set s (2 * i) h) (2 * i + 1) l) (2 * (i + 1))
  spelt_more {s} {i} {h} {l} w b eh el =
      let n : 2 * (i + 1) ≡ 2 * i + 1 + 1 = omega arith in
      rw n
      (front_put (front_put w (omega arith) (eh ∙ sym (encoded_high bytes i b))) (omega arith) (el ∙ sym (encoded_low bytes i b)))

  pub spelt_all : {s : List ℕ} {i : ℕ} → Laid (encoded bytes) space 0 (2 * length bytes) s (2 * i) → length bytes ≤ i
      → s ≡ encoded bytes ++ drop (2 * length bytes) space
  spelt_all {s} {i} w h = front_list w (omega arith) (encoded_length bytes)
