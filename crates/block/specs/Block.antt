-- Blocks of 128 bits, and what NEC's specification of PC-MAC-AES does to them: sections 2.1, 2.2 and 2.5.
-- Assumes nothing.
use Rattle.std.specs.Prelude.{List, [], ◌∷◌, ◌++◌, ℕ, ◌-◌, ◌*◌, eqb, length, get_or, take, drop, replicate}
use Rattle.std.specs.Int.Bits.{bit_xor}
use Rattle.laws.specs.Filled.{filled}
use Rattle.laws.specs.Agree.{table}
use Rattle.laws.specs.Pick.{pick}
use Rattle.laws.specs.Up.{up}
use Rattle.block.specs.Bits.{binary, bits, bytes}

-- a block is the list of its sixteen bytes
abbrev pub Block : Type 0
Block = List ℕ

infixl 60 ◌⊕◌
-- 2.1: x ⊕ y, exclusive or
unfoldable pub ◌⊕◌ : Block → Block → Block
x ⊕ y = table (λ j. bit_xor (get_or x j 0) (get_or y j 0)) 16

-- 2.1: x ≪ 1: where x is x_1 ‖ x_2 ‖ .. ‖ x_n, one bit each, this is x_2 ‖ .. ‖ x_n ‖ 0
unfoldable pub shifted : Block → Block
shifted x = bytes (drop 1 (bits x) ++ (0 ∷ []))

-- 2.1: msb(x), the most significant bit
unfoldable pub msb : Block → ℕ
msb x = get_or (bits x) 0 0

-- 2.1: 0^128
abbrev pub zeros : Block
zeros = replicate 16 0

-- 2.1: [i], the number i as 128 bits
unfoldable pub numbered : ℕ → Block
numbered i = bytes (binary 128 i)

-- 2.2: cut_p(x), the first p bits
unfoldable pub cut : ℕ → Block → List ℕ
cut p x = take p (bits x)

-- 2.2: 0^120 ‖ 10000111
unfoldable pub reduction : Block
reduction = bytes (replicate 120 0 ++ (1 ∷ 0 ∷ 0 ∷ 0 ∷ 0 ∷ 1 ∷ 1 ∷ 1 ∷ []))

-- 2.2: mul2(x), twice x in GF(2^128): x ≪ 1 where msb(x) = 0, otherwise (x ≪ 1) ⊕ (0^120 ‖ 10000111)
unfoldable pub mul2 : Block → Block
mul2 x = pick (eqb (msb x) 0) (shifted x) (shifted x ⊕ reduction)

-- 2.2: pad(x) of at most 128 bits: x where |x| = 128, otherwise x ‖ 1 ‖ 0^(128 - |x| - 1)
unfoldable pub pad : List ℕ → List ℕ
pad x = pick (eqb (length x) 128) x (x ++ (1 ∷ replicate (128 - length x - 1) 0))

-- pad of the bits of at most sixteen bytes, as a block
unfoldable pub padded : List ℕ → Block
padded m = bytes (pad (bits m))

-- 2.5: how many blocks a message of n bytes is cut into: m, with M = M_1 ‖ M_2 ‖ .. ‖ M_m
unfoldable pub blocks : ℕ → ℕ
blocks n = up n 16

-- 2.5: M_i, for i from 1: sixteen bytes, and 1 to 16 bytes where i = m
unfoldable pub block_of : List ℕ → ℕ → List ℕ
block_of message i = take 16 (drop (16 * (i - 1)) message)

-- the first sixteen bytes of a list, and zeros where it has fewer
unfoldable pub sixteen : List ℕ → Block
sixteen x = filled 16 x
