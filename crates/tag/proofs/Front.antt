-- The first p bits of a list of bytes, byte by byte, the spare low bits of the last of them zero.
-- Assumes nothing.
use Rattle.std.proofs.Common.{◌≡◌, refl, ap, sym, ◌∙◌, ⊎_elim, List, [], ◌∷◌, ◌++◌, ℕ, zero, suc, ◌+◌, ◌-◌, ◌*◌, ◌/◌, ◌%◌, ◌^◌, ◌≤◌, ◌<◌}
use Rattle.std.proofs.Common.{not-suc-le-zero, le_of_suc-le-suc, arith, length, get_or, take, replicate, ext_get_or, take_all}
use Rattle.std.proofs.Math.Seq.{take-append-le, take-append-add}
use Rattle.laws.specs.Agree.{table}
use Rattle.laws.proofs.Agree.{agreed, table_at}
use Rattle.laws.proofs.Bytes.{Bytes}
use Rattle.laws.proofs.Cases.{below_or_not}
use Rattle.block.specs.Bits.{binary, bits, value, bytes}
use Rattle.block.specs.Block.{cut, sixteen}
use Rattle.block.proofs.Bits.{byte_value, bytes_of_bits}
use Rattle.block.proofs.Padding.{bits_length}
use Rattle.block.proofs.Sixteen.{sixteen_length, sixteen_at, sixteen_all}

-- the first k bits of a byte, and then zeros
abbrev pub front : ℕ → ℕ → ℕ
front k b = b - b % 2 ^ (8 - k)

-- of no bits nothing is left, of eight or more the byte
pub front_none : (k b : ℕ) → k ≡ 0 → b < 256 → front k b ≡ 0
front_none k b e h = rw e (omega arith)

pub front_whole : (k b : ℕ) → 8 ≤ k → front k b ≡ b
front_whole k b h = let e : 8 - k ≡ 0 = omega arith in rw e (omega arith)

-- k bits of a byte, filled up with zeros
topped : ℕ → ℕ → ℕ
unfolding value
topped k b = value 0 (take 8 (take k (binary 8 b) ++ replicate 8 0))

-- are what `front` gives: a byte and a number below 8 as one number below 2048, so that one test goes over all of them
topped_front : (k b : ℕ) → k < 8 → b < 256 → topped k b ≡ front k b
unfolding topped value binary
topped_front k b h l =
    let q : (256 * k + b) / 256 ≡ k = omega arith in
    let r : (256 * k + b) % 256 ≡ b = omega arith in
    rw (q, r) at
    (agreed (λ n. topped (n / 256) (n % 256)) (λ n. front (n / 256) (n % 256)) 2048 tt (256 * k + b) (omega arith))

-- the byte that k bits of a byte make, k from 1 to 7
short_bytes : (k b : ℕ) → 1 ≤ k → k < 8 → b < 256 → bytes (take k (binary 8 b)) ≡ front k b ∷ []
unfolding bytes binary value topped
short_bytes zero b l h n = absurd (omega arith)
short_bytes (suc zero) b l h n = ap (λ (x : ℕ). x ∷ []) (topped_front 1 b h n)
short_bytes (suc (suc zero)) b l h n = ap (λ (x : ℕ). x ∷ []) (topped_front 2 b h n)
short_bytes (suc (suc (suc zero))) b l h n = ap (λ (x : ℕ). x ∷ []) (topped_front 3 b h n)
short_bytes (suc (suc (suc (suc zero)))) b l h n = ap (λ (x : ℕ). x ∷ []) (topped_front 4 b h n)
short_bytes (suc (suc (suc (suc (suc zero))))) b l h n = ap (λ (x : ℕ). x ∷ []) (topped_front 5 b h n)
short_bytes (suc (suc (suc (suc (suc (suc zero)))))) b l h n = ap (λ (x : ℕ). x ∷ []) (topped_front 6 b h n)
short_bytes (suc (suc (suc (suc (suc (suc (suc zero))))))) b l h n = ap (λ (x : ℕ). x ∷ []) (topped_front 7 b h n)
short_bytes (suc (suc (suc (suc (suc (suc (suc (suc k)))))))) b l h n = absurd (omega arith)

-- the first p bits of a byte and others behind it: of the byte alone, or all of it and then of the others
front_bits : (b p : ℕ) (x : List ℕ) → p < 8 → take p (binary 8 b ++ x) ≡ take p (binary 8 b)
unfolding binary
front_bits b p x h = take-append-le p (binary 8 b) x (omega arith)

later_bits : (b p : ℕ) (x : List ℕ) → 8 ≤ p → take p (binary 8 b ++ x) ≡ binary 8 b ++ take (p - 8) x
unfolding binary
later_bits b p x h =
    let e : 8 + (p - 8) ≡ p = omega arith in
    ap (λ (k : ℕ). take k (binary 8 b ++ x)) (sym e) ∙ take-append-add (binary 8 b) x (p - 8)

-- a byte's bits and others behind them make the byte and then the others' bytes
first_byte : (b : ℕ) (x : List ℕ) → b < 256 → bytes (binary 8 b ++ x) ≡ b ∷ bytes x
unfolding binary bytes
first_byte b x h = ap (λ (y : ℕ). y ∷ bytes x) (byte_value b h)

-- bytes past the first p bits have none of them
past : (p j b : ℕ) → p ≤ 8 * j → b < 256 → 0 ≡ front (p - 8 * j) b
past p j b h l = sym (front_none (p - 8 * j) b (omega arith) l)

module _ (b : ℕ) (m : List ℕ) (h : Bytes (b ∷ m)) where
  -- one byte that is not whole, and none after it
  part_at : (k v j : ℕ) → k ≤ 8 → v ≡ front k b → get_or (v ∷ []) j 0 ≡ front (k - 8 * j) (get_or (b ∷ m) j 0)
  part_at k v zero l e = let q : k - 8 * 0 ≡ k = omega arith in rw q e
  part_at k v (suc j) l e = past k (suc j) (get_or m j 0) (omega arith) (h (suc j)).fits

-- each byte of the first p bits
bytes_at : (m : List ℕ) (p j : ℕ) → Bytes m → j < length m → get_or (bytes (take p (bits m))) j 0 ≡ front (p - 8 * j) (get_or m j 0)
unfolding bits bytes
bytes_at [] p j h l = absurd (not-suc-le-zero l)
bytes_at (b ∷ m) zero j h l = past 0 j (get_or (b ∷ m) j 0) (omega arith) (h j).fits
bytes_at (b ∷ m) (suc p) j h l =
    ⊎_elim (λ a. in_byte a) (λ a. behind (λ i n. bytes_at m (suc p - 8) i (λ k. h (suc k)) n) j a l) (below_or_not (suc p) 8)
  where
    in_byte : suc p < 8 → get_or (bytes (take (suc p) (binary 8 b ++ bits m))) j 0 ≡ front (suc p - 8 * j) (get_or (b ∷ m) j 0)
    in_byte a =
        ap (λ (x : List ℕ). get_or (bytes x) j 0) (front_bits b (suc p) (bits m) a)
        ∙ ap (λ (x : List ℕ). get_or x j 0) (short_bytes (suc p) b (omega arith) a (h 0).fits)
        ∙ part_at b m h (suc p) (front (suc p) b) j (omega arith) refl

    all : 8 ≤ suc p → bytes (take (suc p) (binary 8 b ++ bits m)) ≡ b ∷ bytes (take (suc p - 8) (bits m))
    all a = ap bytes (later_bits b (suc p) (bits m) a) ∙ first_byte b (take (suc p - 8) (bits m)) (h 0).fits

    behind : ((i : ℕ) → i < length m → get_or (bytes (take (suc p - 8) (bits m))) i 0 ≡ front (suc p - 8 - 8 * i) (get_or m i 0))
        → (i : ℕ) → 8 ≤ suc p → i < length (b ∷ m)
        → get_or (bytes (take (suc p) (binary 8 b ++ bits m))) i 0 ≡ front (suc p - 8 * i) (get_or (b ∷ m) i 0)
    behind others zero a n = ap (λ (x : List ℕ). get_or x 0 0) (all a) ∙ sym (front_whole (suc p - 8 * 0) b (omega arith))
    behind others (suc i) a n =
        let e : suc p - 8 - 8 * i ≡ suc p - 8 * suc i = omega arith in
        ap (λ (x : List ℕ). get_or x (suc i) 0) (all a)
        ∙ others i (le_of_suc-le-suc n) ∙ ap (λ (k : ℕ). front k (get_or m i 0)) e

-- the first p bits of a block as sixteen bytes: the table of what the code enters
pub cut_table : (p : ℕ) (x : List ℕ) → length x ≡ 16 → Bytes x
    → table (λ j. front (p - 8 * j) (get_or x j 0)) 16 ≡ sixteen (bytes (cut p x))
unfolding cut
cut_table p x n h =
    let f : ℕ → ℕ = λ j. front (p - 8 * j) (get_or x j 0) in
    let tag = bytes (take p (bits x)) in
    ext_get_or 0 (table f 16) (sixteen tag) (sym (sixteen_length tag))
    (λ j l. table_at f 16 j l ∙ sym (bytes_at x p j h (omega arith)) ∙ sym (sixteen_at tag j l))

-- all of it
pub cut_all : (p : ℕ) (x : List ℕ) → 128 ≤ p → length x ≡ 16 → Bytes x → x ≡ sixteen (bytes (cut p x))
unfolding cut
cut_all p x l n h =
    let all : take p (bits x) ≡ bits x = take_all p (bits x) (omega (arith, bits_length x)) in
    sym (ap (λ (y : List ℕ). sixteen (bytes y)) all ∙ ap sixteen (bytes_of_bits x h) ∙ sixteen_all x n)
