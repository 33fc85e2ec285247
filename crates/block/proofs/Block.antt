-- What the definitions on bits are on bytes: a number below 256 as a block, a shift, the top bit; and what adding zeros does.
-- Assumes nothing.
use mathlib.Core.Path.{◌≡◌, refl, ap, sym, ◌∙◌}
use mathlib.Core.List.{List, [], ◌∷◌, ◌++◌}
use Prim.Native.Nat.{ℕ, zero, suc, ◌+◌, ◌*◌, ◌/◌, ◌%◌, ◌^◌, ◌≤◌, ◌<◌}
use native.Mathlib.Nat.{suc-add, div-eq_of_lt, pow-le-pow_right}
use native.Mathlib.Omega.{arith}
use lib.Bits.{bit_xor, xor_zero_l}
use lib.ListN.{length, get_or, replicate, get_or-replicate}
use lib.Seq.{ext_get_or}
use borrow.Author.Tests.{eq-eqb, ne_eqb}
use Rattle.laws.specs.Agree.{table}
use Rattle.laws.proofs.Agree.{table_length, table_at}
use Rattle.laws.proofs.Bytes.{Bytes}
use Rattle.block.specs.Bits.{binary, bits, value, bytes}
use Rattle.block.specs.Block.{Block, zeros, ◌⊕◌, numbered, shifted, msb, reduction, mul2}
use Rattle.block.proofs.Bits.{byte_value, moved, bits_moved, moved_length, moved_at}

-- the byte at place j of x ≪ 1
abbrev pub shifted_at : Block → ℕ → ℕ
shifted_at x j = get_or x j 0 * 2 % 256 + get_or x (j + 1) 0 / 128

shifted_moved : (x : Block) → length x ≡ 16 → Bytes x → shifted x ≡ moved x
unfolding shifted
shifted_moved [] h b = absurd (omega arith)
shifted_moved (y ∷ x) h b = bits_moved y x b

-- x ≪ 1, byte by byte
pub shifted_bytes : (x : Block) → length x ≡ 16 → Bytes x → shifted x ≡ table (shifted_at x) 16
shifted_bytes x h b =
    shifted_moved x h b
    ∙ ext_get_or 0 (moved x) (table (shifted_at x) 16) (moved_length x ∙ h)
    (λ j l. let l' : j < length x = rw moved_length at l in moved_at x j l' ∙ sym (table_at (shifted_at x) 16 j (omega arith)))

-- the top bit of a block is that of its first byte
pub msb_byte : (x : Block) → 1 ≤ length x → msb x ≡ get_or x 0 0 / 128 % 2
unfolding msb bits binary
msb_byte [] h = absurd (omega arith)
msb_byte (y ∷ x) h = refl

-- doubling where the top bit is 0, and where it is 1
pub mul2_low : (x : Block) → length x ≡ 16 → get_or x 0 0 < 128 → mul2 x ≡ shifted x
unfolding mul2
mul2_low x h l =
    let e : msb x ≡ 0 = msb_byte x (omega arith) ∙ omega arith in
    rw (eq-eqb _ _ e)

pub mul2_high : (x : Block) → length x ≡ 16 → 128 ≤ get_or x 0 0 → get_or x 0 0 < 256 → mul2 x ≡ shifted x ⊕ reduction
unfolding mul2
mul2_high x h l b =
    let e : msb x ≡ 1 = msb_byte x (omega arith) ∙ omega arith in
    rw (ne_eqb (msb x) 0 (λ z. omega arith))

-- a number below 256 takes the last byte
binary_wide : (n i : ℕ) → i < 256 → binary (n + 8) i ≡ replicate n 0 ++ binary 8 i
unfolding binary
binary_wide zero i h = refl
binary_wide (suc n) i h =
    let wide : 2 ^ 8 ≤ 2 ^ (n + 8) = pow-le-pow_right (omega arith) {i = 8} {j = n + 8} (omega arith) in
    let none : i / 2 ^ (n + 8) ≡ 0 = div-eq_of_lt (omega arith) in
    rw suc-add (rw none (ap (λ (x : List ℕ). 0 ∷ x) (binary_wide n i h)))

pub numbered_byte : (i : ℕ) → i < 256 → numbered i ≡ replicate 15 0 ++ (i ∷ [])
unfolding numbered bytes value binary
numbered_byte i h = ap bytes (binary_wide 120 i h) ∙ ap (λ (x : ℕ). replicate 15 0 ++ (x ∷ [])) (byte_value i h)

pub reduction_is : reduction ≡ numbered 0x87
unfolding reduction numbered bytes value binary
reduction_is = refl

-- nothing added to a block is the block
pub xor_none : (x : Block) → length x ≡ 16 → zeros ⊕ x ≡ x
unfolding ◌⊕◌
xor_none x h =
    let f : ℕ → ℕ = λ j. bit_xor (get_or zeros j 0) (get_or x j 0) in
    ext_get_or 0 (table f 16) x (table_length f 16 ∙ sym h)
    (λ j l.
    let b : j < 16 = rw (table_length f 16) at l in
    table_at f 16 j b ∙ ap (λ (z : ℕ). bit_xor z (get_or x j 0)) (get_or-replicate 16 j 0 0 b) ∙ xor_zero_l (get_or x j 0))
