-- Bytes to bits and back; what a shift of the bits does to the bytes.
-- Assumes nothing.
use mathlib.Core.Path.{◌≡◌, refl, ap, ap₂, sym, ◌∙◌}
use mathlib.Core.List.{List, [], ◌∷◌, ◌++◌, append-nil}
use Prim.Native.Nat.{ℕ, zero, suc, ◌+◌, ◌*◌, ◌/◌, ◌%◌, ◌^◌, ◌<◌}
use native.Mathlib.Nat.{suc-add, not-suc-le-zero, le_of_suc-le-suc}
use native.Mathlib.Omega.{arith}
use lib.ListN.{length, get_or, drop}
use Rattle.laws.specs.Up.{up}
use Rattle.laws.proofs.Agree.{agreed}
use Rattle.laws.proofs.Bytes.{Bytes}
use Rattle.block.specs.Bits.{binary, bits, value, bytes}

-- the eight digits of a byte make the byte: one test over all bytes
pub byte_value : (b : ℕ) → b < 256 → value 0 (binary 8 b) ≡ b
unfolding value binary
byte_value b h = agreed (λ x. value 0 (binary 8 x)) (λ x. x) 256 tt b h

-- the bytes of a list's bits are the list, whatever bits follow
pub bytes_bits : (m x : List ℕ) → Bytes m → bytes (bits m ++ x) ≡ m ++ bytes x
unfolding bits bytes binary
bytes_bits [] x h = refl
bytes_bits (b ∷ m) x h = ap₂ (λ (y : ℕ) (l : List ℕ). y ∷ l) (byte_value b (h 0).fits) (bytes_bits m x (λ j. h (suc j)))

pub bytes_of_bits : (m : List ℕ) → Bytes m → bytes (bits m) ≡ m
unfolding bytes
bytes_of_bits m h = ap bytes (sym (append-nil (bits m))) ∙ bytes_bits m [] h ∙ append-nil m

-- each byte moved up by one bit, with the top bit of the byte after it
unfoldable pub moved : List ℕ → List ℕ
moved [] = []
moved (b ∷ m) = (b * 2 % 256 + get_or m 0 0 / 128) ∷ moved m

-- the seven low digits of a byte and one digit more: one test over all bytes
low_seven : (b t : ℕ) → b < 256 → value 0 (drop 1 (binary 8 b) ++ (t ∷ [])) ≡ b * 2 % 256 + t
unfolding value binary
low_seven b t h =
    ap (λ (x : ℕ). x + t) (agreed (λ x. 2 * value 0 (drop 1 (binary 8 x))) (λ x. x * 2 % 256) 256 tt b h)

-- the bits without the first, and a zero behind them, are the bytes moved up
pub bits_moved : (b : ℕ) (m : List ℕ) → Bytes (b ∷ m) → bytes (drop 1 (bits (b ∷ m)) ++ (0 ∷ [])) ≡ moved (b ∷ m)
unfolding bits bytes binary moved
bits_moved b [] h = ap (λ (x : ℕ). x ∷ []) (low_seven b 0 (h 0).fits)
bits_moved b (c ∷ m) h =
    let t : c / 2 ^ 7 % 2 ≡ c / 128 = let l : c < 256 = (h 1).fits in omega arith in
    ap₂ (λ (y : ℕ) (l : List ℕ). y ∷ l) (low_seven b (c / 2 ^ 7 % 2) (h 0).fits ∙ ap (λ (x : ℕ). b * 2 % 256 + x) t)
    (bits_moved c m (λ j. h (suc j)))

pub moved_length : (m : List ℕ) → length (moved m) ≡ length m
unfolding moved
moved_length [] = refl
moved_length (b ∷ m) = ap suc (moved_length m)

pub moved_at : (m : List ℕ) (j : ℕ) → j < length m → get_or (moved m) j 0 ≡ get_or m j 0 * 2 % 256 + get_or m (j + 1) 0 / 128
unfolding moved
moved_at [] j h = absurd (not-suc-le-zero h)
moved_at (b ∷ m) zero h = refl
moved_at (b ∷ m) (suc j) h = rw suc-add (moved_at m j (le_of_suc-le-suc h))

-- eight bits to a byte, rounded up
pub bytes_length : (x : List ℕ) → length (bytes x) ≡ up (length x) 8
unfolding bytes
bytes_length [] = refl
bytes_length (a ∷ []) = refl
bytes_length (a ∷ b ∷ []) = refl
bytes_length (a ∷ b ∷ c ∷ []) = refl
bytes_length (a ∷ b ∷ c ∷ d ∷ []) = refl
bytes_length (a ∷ b ∷ c ∷ d ∷ e ∷ []) = refl
bytes_length (a ∷ b ∷ c ∷ d ∷ e ∷ f ∷ []) = refl
bytes_length (a ∷ b ∷ c ∷ d ∷ e ∷ f ∷ g ∷ []) = refl
bytes_length (a ∷ b ∷ c ∷ d ∷ e ∷ f ∷ g ∷ h ∷ x) = let n = bytes_length x in omega arith
