-- The key expansion of FIPS 197, section 5.2 (Figure 11), for a key of four words. A schedule is the list of its bytes, four to a word.
-- Assumes nothing.
use Rattle.std.specs.Prelude.{ℕ, zero, suc, ◌+◌, ◌-◌, ◌*◌, ◌/◌, ◌%◌, List, [], ◌∷◌, ◌++◌, eqb, get_or}
use Rattle.laws.specs.Pick.{pick}
use Rattle.field.specs.Field.{xtime}
use Rattle.field.specs.Sbox.{sub_byte}
use Rattle.state.specs.State.{word, xor_word}

-- 5.2: w[i], word i of a schedule
abbrev pub word_at : List ℕ → ℕ → List ℕ
word_at w i = word (λ j. get_or w (4 * i + j) 0)

-- 5.2: RotWord, [a0, a1, a2, a3] to [a1, a2, a3, a0]
abbrev pub rot_word : List ℕ → List ℕ
rot_word t = word (λ j. get_or t ((j + 1) % 4) 0)

-- 5.2: SubWord, S of each byte
abbrev pub sub_word : List ℕ → List ℕ
sub_word t = word (λ j. sub_byte (get_or t j 0))

-- for 5.2: x^n in GF(2^8)
unfoldable pub x_power : ℕ → ℕ
x_power zero = 1
x_power (suc n) = xtime (x_power n)

-- 5.2: Rcon[i] = [x^(i-1), {00}, {00}, {00}], for i from 1
unfoldable pub rcon : ℕ → List ℕ
rcon i = x_power (i - 1) ∷ 0 ∷ 0 ∷ 0 ∷ []

-- 5.2: temp, from i and w[i-1]: SubWord(RotWord(w[i-1])) xor Rcon[i/4] where i mod 4 = 0, otherwise w[i-1]
unfoldable pub temp : ℕ → List ℕ → List ℕ
temp i t = pick (eqb (i % 4) 0) (xor_word (sub_word (rot_word t)) (rcon (i / 4))) t

-- 5.2: w[i] = w[i-4] xor temp, for i from 4
unfoldable pub next_word : List ℕ → ℕ → List ℕ
next_word w i = xor_word (word_at w (i - 4)) (temp i (word_at w (i - 1)))

-- 5.2: the key, which is w[0] to w[3], and n words more
unfoldable pub words : List ℕ → ℕ → List ℕ
words key zero = key
words key (suc n) = words key n ++ next_word (words key n) (n + 4)

-- 5.2: KeyExpansion of a key of 16 bytes: w[0] to w[43], 176 bytes
unfoldable pub schedule : List ℕ → List ℕ
schedule key = words key 40
