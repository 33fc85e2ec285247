-- A number as bytes: how many they are, and one and four of them one by one.
-- Assumes nothing.
use mathlib.Core.Path.{◌≡◌, refl, ap, ◌∙◌}
use mathlib.Core.List.{[], ◌∷◌}
use Prim.Native.Nat.{ℕ, zero, suc, ◌/◌, ◌%◌, ◌<◌}
use native.Mathlib.Omega.{arith}
use lib.ListN.{length, length-append}
use Rattle.laws.specs.BigEndian.{big_endian}

pub big_length : (k n : ℕ) → length (big_endian k n) ≡ k
unfolding big_endian
big_length zero n = refl
big_length (suc k) n = length-append (big_endian k (n / 256)) (n % 256 ∷ []) ∙ omega (arith, big_length k (n / 256))

-- one is the last, and of a byte itself
pub big_one : (n : ℕ) → n % 256 ∷ [] ≡ big_endian 1 n
unfolding big_endian
big_one n = refl

pub big_byte : (n : ℕ) → n < 256 → n ∷ [] ≡ big_endian 1 n
big_byte n h = let e : n ≡ n % 256 = omega arith in ap (λ (x : ℕ). x ∷ []) e ∙ big_one n

pub big_four : (n : ℕ) → n / 16777216 % 256 ∷ n / 65536 % 256 ∷ n / 256 % 256 ∷ n % 256 ∷ [] ≡ big_endian 4 n
unfolding big_endian
big_four n =
    let a : n / 256 / 256 ≡ n / 65536 = omega arith in
    let b : n / 65536 / 256 ≡ n / 16777216 = omega arith in
    rw (a, b)
