-- What two tags differ in, gathered, is 0 exactly where the two are the same.
-- Assumes nothing.
use Rattle.std.proofs.Common.{◌≡◌, refl, ap, ap₂, sym, ◌∙◌, ⊎_elim, List, ℕ, zero, suc, ◌+◌, ◌<◌, not-suc-le-zero, le_of_suc-le-suc}
use Rattle.std.proofs.Common.{eq-or-lt_of_le, add-one, arith, bit_or, bit_xor, length, get_or, ext_get_or}
use lib.Bits.{xor_self}
use Rattle.laws.proofs.Or.{or_none}
use Rattle.laws.proofs.Xor.{xor_cancel}
use Rattle.tag.specs.Difference.{differences}

-- where nothing differs, the numbers are equal
no_bit : (a b : ℕ) → bit_xor a b ≡ 0 → a ≡ b
no_bit a b e = xor_cancel a a b (xor_self a ∙ sym e)

-- where nothing was gathered, each byte is the other's
bytes_alike : (n : ℕ) (x y : List ℕ) → differences n x y ≡ 0 → (j : ℕ) → j < n → get_or x j 0 ≡ get_or y j 0
unfolding differences
bytes_alike zero x y e j b = absurd (not-suc-le-zero b)
bytes_alike (suc n) x y e j b =
    let none = or_none (differences n x y) (bit_xor (get_or x n 0) (get_or y n 0)) e in
    ⊎_elim (λ q. rw q (no_bit (get_or x n 0) (get_or y n 0) none.1)) (bytes_alike n x y none.0 j) (eq-or-lt_of_le (le_of_suc-le-suc b))

-- of a list and itself nothing is gathered
none_of_itself : (n : ℕ) (x : List ℕ) → differences n x x ≡ 0
unfolding differences
none_of_itself zero x = refl
none_of_itself (suc n) x = ap₂ bit_or (none_of_itself n x) (xor_self (get_or x n 0))

-- what was gathered over n bytes of two lists of n bytes is 0 exactly where the two are the same
pub no_difference : {n : ℕ} (x y : List ℕ) → length x ≡ n → length y ≡ n
    → (differences n x y ≡ 0 → x ≡ y) × (x ≡ y → differences n x y ≡ 0)
no_difference {n} x y a b = (
  λ e. ext_get_or 0 x y (a ∙ sym b) (λ j l. bytes_alike n x y e j (omega arith)),
  λ e. ap (λ (z : List ℕ). differences n x z) (sym e) ∙ none_of_itself n x,
)

-- one byte more
pub gathered_more : (x y : List ℕ) (i : ℕ) {d : ℕ} → d ≡ differences i x y
    → bit_or d (bit_xor (get_or x i 0) (get_or y i 0)) ≡ differences (i + 1) x y
unfolding differences
gathered_more x y i e = rw add-one (ap (λ (z : ℕ). bit_or z (bit_xor (get_or x i 0) (get_or y i 0))) e)
