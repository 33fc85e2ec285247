-- A hexadecimal line and its bytes, both ways: two characters for each byte, high half first.
-- Assumes nothing.
use Rattle.std.specs.Prelude.{Bool, true, List, [], ◌∷◌, ℕ, ◌+◌, ◌*◌, ◌/◌, ◌%◌, eqb, length, get_or}
use Rattle.laws.specs.Agree.{both, table}
use Rattle.hex_line.specs.Digit.{is_digit, value_of, character_of}

-- each character is a digit
unfoldable pub all_digits : List ℕ → Bool
all_digits [] = true
all_digits (c ∷ cs) = both (is_digit c) (all_digits cs)

-- pairs of digits, and nothing else
unfoldable pub is_hex : List ℕ → Bool
is_hex line = both (eqb (length line % 2) 0) (all_digits line)

-- byte i of a line, from 0: that of the characters 2i and 2i + 1
abbrev pub byte_at : List ℕ → ℕ → ℕ
byte_at line i = 16 * value_of (get_or line (2 * i) 0) + value_of (get_or line (2 * i + 1) 0)

-- the bytes of a line, one for each pair
unfoldable pub decoded : List ℕ → List ℕ
decoded line = table (byte_at line) (length line / 2)

-- the line of bytes
unfoldable pub encoded : List ℕ → List ℕ
encoded [] = []
encoded (b ∷ bs) = character_of (b / 16) ∷ character_of (b % 16) ∷ encoded bs
