-- Blocks joined to one list: how long it is, and which byte stands where.
-- Assumes nothing.
use mathlib.Core.Path.{◌≡◌, refl, ap, sym, ◌∙◌}
use Prim.Native.Nat.{ℕ, zero, suc, ◌+◌, ◌*◌, ◌/◌, ◌%◌, ◌<◌}
use native.Mathlib.Nat.{not-suc-le-zero, le_of_suc-le-suc}
use native.Mathlib.Omega.{arith}
use lib.ListN.{length, get_or, length-append, get_or-append}
use lib.Seq.{get_or-append-add}
use Rattle.laws.specs.Agree.{from, table}
use Rattle.laws.specs.Joined.{joined}
use Rattle.block.specs.Block.{Block}

module _ (g : ℕ → Block) (whole : (x : ℕ) → length (g x) ≡ 16) where
  from_length : (i m : ℕ) → length (joined (from i m g)) ≡ 16 * m
  unfolding joined
  from_length i zero = refl
  from_length i (suc m) =
      let a = whole i in
      let b = from_length (suc i) m in
      length-append (g i) (joined (from (suc i) m g)) ∙ omega arith

  from_byte : (i m n j : ℕ) → n < m → j < 16 → get_or (joined (from i m g)) (16 * n + j) 0 ≡ get_or (g (i + n)) j 0
  unfolding joined
  from_byte i zero n j h l = absurd (not-suc-le-zero h)
  from_byte i (suc m) zero j h l =
      let a = whole i in
      let e : 16 * 0 + j ≡ j = omega arith in
      let z : i + 0 ≡ i = omega arith in
      rw (e, z) (get_or-append (g i) (joined (from (suc i) m g)) 0 j (omega arith))
  from_byte i (suc m) (suc n) j h l =
      let a = whole i in
      let e : 16 * suc n + j ≡ length (g i) + (16 * n + j) = omega arith in
      let z : i + suc n ≡ suc i + n = omega arith in
      rw (e, z)
      (get_or-append-add (g i) (joined (from (suc i) m g)) (16 * n + j) 0 ∙ from_byte (suc i) m n j (le_of_suc-le-suc h) l)

  -- sixteen bytes for each block
  pub joined_length : (m : ℕ) → length (joined (table g m)) ≡ 16 * m
  joined_length m = from_length 0 m

  -- byte i of m blocks is byte i mod 16 of block i / 16, from 0
  pub joined_byte : (m i : ℕ) → i < 16 * m → get_or (joined (table g m)) i 0 ≡ get_or (g (i / 16)) (i % 16) 0
  joined_byte m i h =
      let e : 16 * (i / 16) + i % 16 ≡ i = omega arith in
      ap (λ (x : ℕ). get_or (joined (table g m)) x 0) (sym e)
      ∙ from_byte 0 m (i / 16) (i % 16) (omega arith) (omega arith)
      ∙ ap (λ (x : ℕ). get_or (g x) (i % 16) 0) (omega arith)
