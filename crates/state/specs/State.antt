-- The state of FIPS 197, section 3.4, four rows of four bytes, and the transformations of section 5.1.
-- Assumes nothing.
use Rattle.std.specs.Prelude.{ℕ, ◌+◌, ◌*◌, ◌/◌, ◌%◌, List, [], ◌∷◌, get_or}
use Rattle.laws.specs.Agree.{table}
use Rattle.field.specs.Field.{◌⊕◌, mul}
use Rattle.field.specs.Sbox.{sub_byte}

-- 3.4: a state is the list of its rows, each the list of its bytes
abbrev pub State : Type 0
State = List (List ℕ)

-- 3.4: s[r, c], the byte in row r, column c
abbrev pub cell : State → ℕ → ℕ → ℕ
cell s r c = get_or (get_or s r []) c 0

-- four bytes, f j at place j: a row of a state, 3.4, or a word, 3.5
abbrev pub word : (ℕ → ℕ) → List ℕ
word f = f 0 ∷ f 1 ∷ f 2 ∷ f 3 ∷ []

-- 3.4: the state with f r c in row r, column c
abbrev pub grid : (ℕ → ℕ → ℕ) → State
grid f = word (f 0) ∷ word (f 1) ∷ word (f 2) ∷ word (f 3) ∷ []

-- (3.3): s[r, c] = in[r + 4c]
abbrev pub load : List ℕ → State
load block = grid (λ r c. get_or block (r + 4 * c) 0)

-- (3.4): out[r + 4c] = s[r, c]
abbrev pub store : State → List ℕ
store s = table (λ i. cell s (i % 4) (i / 4)) 16

-- 5.1.1: SubBytes, S of each byte
abbrev pub sub_bytes : State → State
sub_bytes s = grid (λ r c. sub_byte (cell s r c))

-- 5.1.2, (5.3) and (5.4): ShiftRows, row r turned to the left by r places
abbrev pub shift_rows : State → State
shift_rows s = grid (λ r c. cell s r ((c + r) % 4))

-- 5.1.3, (5.6): one byte of the product of the matrix and a column, from the column's byte in that row and the three below it, around
unfoldable pub mix : ℕ → ℕ → ℕ → ℕ → ℕ
mix a b c d = mul 2 a ⊕ mul 3 b ⊕ c ⊕ d

-- 5.1.3, (5.6): MixColumns
abbrev pub mix_columns : State → State
mix_columns s =
    grid (λ r c. mix (cell s r c) (cell s ((r + 1) % 4) c) (cell s ((r + 2) % 4) c) (cell s ((r + 3) % 4) c))

-- 4.3, (4.7): the sum of two words, byte by byte
abbrev pub xor_word : List ℕ → List ℕ → List ℕ
xor_word p q = word (λ j. get_or p j 0 ⊕ get_or q j 0)

-- 5.1.4, (5.7): AddRoundKey, a round key given as a state
abbrev pub add_round_key : State → State → State
add_round_key s k = grid (λ r c. cell s r c ⊕ cell k r c)
