-- Padding on bytes: sixteen bytes stay, fewer get 80 and zeros.
-- Assumes nothing.
use mathlib.Core.Path.{◌≡◌, refl, ap, sym, ◌∙◌}
use mathlib.Core.Logic.{⊎_elim}
use mathlib.Core.List.{List, [], ◌∷◌, ◌++◌}
use Prim.Native.Nat.{ℕ, zero, suc, ◌-◌, ◌*◌, ◌≤◌, ◌<◌}
use native.Mathlib.Nat.{eq-or-lt_of_le}
use native.Mathlib.Omega.{arith}
use lib.ListN.{length, take, set, replicate, length-append, length-replicate}
use lib.Seq.{take_all, length-take-le, set_at}
use borrow.Author.Tests.{eq-eqb, ne_eqb}
use Rattle.laws.proofs.Bytes.{Bytes, bytes_take}
use Rattle.block.specs.Bits.{binary, bits, value, bytes}
use Rattle.block.specs.Block.{pad, padded, sixteen}
use Rattle.block.proofs.Bits.{bytes_bits, bytes_of_bits, bytes_length}
use Rattle.block.proofs.Sixteen.{sixteen_short}

-- eight bits to a byte
pub bits_length : (m : List ℕ) → length (bits m) ≡ 8 * length m
unfolding bits binary
bits_length [] = refl
bits_length (b ∷ m) = ap (λ (n : ℕ). suc (suc (suc (suc (suc (suc (suc (suc n)))))))) (bits_length m) ∙ omega arith

eight_more : (k : ℕ) → 8 * suc k ≡ suc (suc (suc (suc (suc (suc (suc (suc (8 * k))))))))
eight_more k = omega arith

-- eight zeros are one zero byte
bytes_zeros : (k : ℕ) → bytes (replicate (8 * k) 0) ≡ replicate k 0
unfolding bytes value
bytes_zeros zero = refl
bytes_zeros (suc k) = rw eight_more (ap (λ (x : List ℕ). 0 ∷ x) (bytes_zeros k))

-- a one and as many zeros as fill up k + 1 bytes
bytes_mark : (k : ℕ) → bytes (1 ∷ replicate (8 * suc k - 1) 0) ≡ 0x80 ∷ replicate k 0
unfolding bytes value
bytes_mark k =
    let e : 8 * suc k - 1 ≡ suc (suc (suc (suc (suc (suc (suc (8 * k))))))) = omega arith in
    rw e (ap (λ (x : List ℕ). 0x80 ∷ x) (bytes_zeros k))

-- a full last block stays as it is
pub padded_full : (m : List ℕ) → length m ≡ 16 → Bytes m → padded m ≡ m
unfolding padded pad
padded_full m h b =
    let e : length (bits m) ≡ 128 = bits_length m ∙ omega arith in
    rw (eq-eqb _ _ e) (bytes_of_bits m b)

-- a shorter one gets 80 and then zeros to sixteen bytes
pub padded_short : (m : List ℕ) → length m < 16 → Bytes m → padded m ≡ m ++ (0x80 ∷ replicate (15 - length m) 0)
unfolding padded pad
padded_short m h b =
    let n : length (bits m) ≡ 8 * length m = bits_length m in
    let ne : length (bits m) ≡ 128 → ⊥ = λ z. omega arith in
    let e : 128 - length (bits m) - 1 ≡ 8 * suc (15 - length m) - 1 = omega arith in
    rw (ne_eqb (length (bits m)) 128 ne, e)
    (bytes_bits m (1 ∷ replicate (8 * suc (15 - length m) - 1) 0) b ∙ ap (λ (x : List ℕ). m ++ x) (bytes_mark (15 - length m)))

-- pad gives 128 bits
pub pad_length : (x : List ℕ) → length x ≤ 128 → length (pad x) ≡ 128
unfolding pad
pad_length x h = ⊎_elim (full x) (λ l. short x (omega arith)) (eq-or-lt_of_le h)
  where
    full : (x : List ℕ) → length x ≡ 128 → length (pad x) ≡ 128
    full x e = rw (eq-eqb (length x) 128 e) e

    short : (x : List ℕ) → length x < 128 → length (pad x) ≡ 128
    short x l =
        let n : ℕ = 128 - length x - 1 in
        let e : length (replicate {A = ℕ} n 0) ≡ n = length-replicate n 0 in
        rw (ne_eqb (length x) 128 (λ z. omega arith)) (length-append x (1 ∷ replicate n 0) ∙ omega arith)

-- and so a block
pub padded_length : (m : List ℕ) → length m ≤ 16 → length (padded m) ≡ 16
unfolding padded
padded_length m h =
    let n = bits_length m in
    let b : length (pad (bits m)) ≡ 128 = pad_length (bits m) (omega arith) in
    bytes_length (pad (bits m)) ∙ rw b

-- n bytes of a block, padded: of sixteen or more, the block
pub pad_full : (x : List ℕ) (n : ℕ) → length x ≡ 16 → Bytes x → 16 ≤ n → x ≡ padded (take n x)
pad_full x n h b l = let e : take n x ≡ x = take_all n x (omega arith) in rw e (sym (padded_full x h b))

-- of fewer, they and zeros, with 80 laid behind them
pub pad_short : (x : List ℕ) (n : ℕ) → length x ≡ 16 → Bytes x → n < 16 → set (sixteen (take n x)) n 0x80 ≡ padded (take n x)
pad_short x n h b l =
    let m : length (take n x) ≡ n = length-take-le n x (omega arith) in
    let e : 16 - length (take n x) ≡ suc (15 - length (take n x)) = omega arith in
    ap (λ (y : List ℕ). set y n 0x80) (sixteen_short (take n x) (omega arith) ∙ ap (λ (k : ℕ). take n x ++ replicate k 0) e)
    ∙ set_at (take n x) 0 (replicate (15 - length (take n x)) 0) 0x80 n m
    ∙ sym (padded_short (take n x) (omega arith) (bytes_take n x b))
