-- Wrong outcomes that the promises do not permit, for every input that tells them apart, or at one.
-- Assumes nothing.
use mathlib.Core.Path.{◌≡◌, sym, ap, ◌∙◌}
use mathlib.Core.List.{List, ◌∷◌, ◌++◌}
use Prim.Native.Nat.{ℕ, ◌≤◌, ◌<◌}
use native.Mathlib.Nat.{add-zero}
use native.Mathlib.Omega.{arith}
use lib.Bits.{xor_self}
use lib.ListN.{length, get_or, take, drop, replicate}
use lib.Seq.{get_or-drop, get_or-set_same}
use Rattle.laws.proofs.Bytes.{Bytes}
use Rattle.block.specs.Bits.{binary, bits, value, bytes}
use Rattle.block.specs.Block.{Block, ◌⊕◌, shifted, msb, mul2, sixteen}
use Rattle.block.specs.Promise.{XorPromise, NumberedPromise, DoublePromise, ReadPromise, JoinPromise, PadPromise}
use Rattle.block.proofs.Block.{numbered_byte}
use Rattle.block.proofs.Padding.{pad_short}
use Rattle.block.proofs.Sixteen.{sixteen_length, sixteen_at, joined_front}

-- the byte at place j of a block
abbrev at : ℕ → Block → ℕ
at j x = get_or x j 0

-- xor does not sum by and, nor by or: a block with itself would be itself
pub sum_by_and : (x r : Block) → 1 ≤ get_or x 0 0 → get_or r 0 0 ≡ get_or x 0 0 → XorPromise x x r → ⊥
unfolding ◌⊕◌
sum_by_and x r some h p =
    let z : get_or r 0 0 ≡ 0 = ap (at 0) p ∙ xor_self (get_or x 0 0) in
    omega arith

module _ (i : ℕ) (r : Block) (some : 1 ≤ i) (byte : i < 256) (p : NumberedPromise i r) where
  -- [i] does not have its lowest byte first
  pub number_little_endian : get_or r 0 0 ≡ i → ⊥
  number_little_endian h =
      let z : get_or r 0 0 ≡ 0 = ap (at 0) (p ∙ numbered_byte i byte) in
      omega arith

  -- [i] is not 256 times i
  pub number_moved_up : get_or r 14 0 ≡ i → ⊥
  number_moved_up h =
      let z : get_or r 14 0 ≡ 0 = ap (at 14) (p ∙ numbered_byte i byte) in
      omega arith

-- double does not move a byte's own top bit into it: of 00 80 and zeros, 01 and not 00 comes first
pub carry_from_itself : (r : Block) → get_or r 0 0 ≡ 0x00 → DoublePromise (0x00 ∷ 0x80 ∷ replicate 14 0x00) r → ⊥
unfolding mul2 shifted msb bits bytes binary value
carry_from_itself r h p = let z : get_or r 0 0 ≡ 0x01 = ap (at 0) p in omega arith

-- read does not put a zero before the bytes that it reads
pub short_end_moved : (m : List ℕ) (from : ℕ) (r : Block) → 1 ≤ get_or m from 0 → get_or r 0 0 ≡ 0 → ReadPromise m from r → ⊥
short_end_moved m from r some h p =
    let z : get_or r 0 0 ≡ get_or m from 0 =
    ap (at 0) p ∙ sixteen_at (drop from m) 0 (omega arith) ∙ get_or-drop from m 0 0 ∙ ap (λ (j : ℕ). get_or m j 0) (add-zero from) in
    omega arith

-- join does not put the block's last byte first
pub block_byte_of_the_end : (x : Block) (n : ℕ) (part : List ℕ) (r : Block) → length x ≡ 16 → 1 ≤ n
    → (get_or x 0 0 ≡ get_or x 15 0 → ⊥) → get_or r 0 0 ≡ get_or x 15 0 → JoinPromise x n part r → ⊥
block_byte_of_the_end x n part r whole some differ h p =
    differ
    (sym (ap (at 0) p ∙ sixteen_at (take n x ++ part) 0 (omega arith) ∙ joined_front x part n 0 (omega arith) (omega arith)) ∙ h)

-- the byte behind a short block is not 01
pub padded_with_a_low_one : (x : Block) (n : ℕ) (r : Block) → length x ≡ 16 → Bytes x → n < 16 → get_or r n 0 ≡ 0x01
    → PadPromise x n r → ⊥
padded_with_a_low_one x n r whole b short h p =
    let l : length (sixteen (take n x)) ≡ 16 = sixteen_length (take n x) in
    let z : get_or r n 0 ≡ 0x80 =
    ap (at n) (p ∙ sym (pad_short x n whole b short)) ∙ get_or-set_same (sixteen (take n x)) n 0x80 0 (omega arith) in
    omega arith
