-- Exclusive or of numbers is associative; the order of a sum of four; what two sums have in common; doubling goes through it.
-- Assumes nothing.
use mathlib.Core.Path.{◌≡◌, refl, sym, ap, ap₂, ◌∙◌}
use Prim.Native.Nat.{ℕ, zero, suc, ◌+◌, ◌*◌, ◌/◌, ◌%◌, ◌<◌}
use native.Mathlib.Nat.{add-zero}
use native.Mathlib.Omega.{arith}
use lib.Arith.{bin_ind}
use lib.Bits.{bit_xor, differ, xor_step, xor_shr, xor_mod, xor_comm, xor_self, xor_zero_l, xor_block}

-- what holds of 0 and of 1 holds of a digit
of_digit : (P : ℕ → Type 0) → P 0 → P 1 → (x : ℕ) → x < 2 → P x
of_digit P a b zero h = a
of_digit P a b (suc zero) h = b
of_digit P a b (suc (suc x)) h = absurd (omega arith)

-- the same of two digits
pub of_digits : (P : ℕ → ℕ → Type 0) → P 0 0 → P 0 1 → P 1 0 → P 1 1 → (x y : ℕ) → x < 2 → y < 2 → P x y
of_digits P a b c d x y hx hy = of_digit (λ z. P z y) (of_digit (P 0) a b y hy) (of_digit (P 1) c d y hy) x hx

differ_assoc : (x y z : ℕ) → x < 2 → y < 2 → z < 2 → differ (differ x y) z ≡ differ x (differ y z)
differ_assoc x y z hx hy hz =
    of_digits (λ a b. differ (differ a b) z ≡ differ a (differ b z)) refl refl refl
    (of_digit (λ c. differ (differ 1 1) c ≡ differ 1 (differ 1 c)) refl refl z hz) x y hx hy

-- exclusive or of two digits is that they differ
digit_xor : (x y : ℕ) → x < 2 → y < 2 → bit_xor x y ≡ differ x y
digit_xor = of_digits (λ x y. bit_xor x y ≡ differ x y) refl refl refl refl

lowest : (a b : ℕ) → bit_xor a b % 2 ≡ differ (a % 2) (b % 2)
lowest a b = xor_mod a b 1 ∙ digit_xor (a % 2) (b % 2) (omega arith) (omega arith)

pub xor_assoc : (a b c : ℕ) → bit_xor (bit_xor a b) c ≡ bit_xor a (bit_xor b c)
xor_assoc =
    bin_ind (λ (n : ℕ). (b c : ℕ) → bit_xor (bit_xor n b) c ≡ bit_xor n (bit_xor b c)) (λ b c. refl)
    (λ n ih b c.
    xor_step (bit_xor n b) c
    ∙ ap₂ (λ (x y : ℕ). x * 2 + y)
    (ap (λ (x : ℕ). bit_xor x (c / 2)) (xor_shr n b 1) ∙ ih (b / 2) (c / 2) ∙ ap (bit_xor (n / 2)) (sym (xor_shr b c 1)))
    (ap (λ (x : ℕ). differ x (c % 2)) (lowest n b)
    ∙ differ_assoc (n % 2) (b % 2) (c % 2) (omega arith) (omega arith) (omega arith)
    ∙ ap (differ (n % 2)) (sym (lowest b c)))
    ∙ sym (xor_step n (bit_xor b c)))

-- a sum of two sums, taken crosswise
pub xor_cross : (a b c d : ℕ) → bit_xor (bit_xor a b) (bit_xor c d) ≡ bit_xor (bit_xor a c) (bit_xor b d)
xor_cross a b c d =
    xor_assoc a b (bit_xor c d)
    ∙ ap (bit_xor a) (sym (xor_assoc b c d) ∙ ap (λ (x : ℕ). bit_xor x d) (xor_comm b c) ∙ xor_assoc c b d)
    ∙ sym (xor_assoc a c (bit_xor b d))

-- what is added twice is gone
xor_again : (a b : ℕ) → bit_xor a (bit_xor a b) ≡ b
xor_again a b = sym (xor_assoc a a b) ∙ ap (λ (x : ℕ). bit_xor x b) (xor_self a) ∙ xor_zero_l b

-- what two equal sums have in common can be left out
pub xor_cancel : (a b c : ℕ) → bit_xor a b ≡ bit_xor a c → b ≡ c
xor_cancel a b c e = sym (xor_again a b) ∙ ap (bit_xor a) e ∙ xor_again a c

-- twice a sum is the sum of the doubles
pub xor_twice : (a b : ℕ) → bit_xor a b * 2 ≡ bit_xor (a * 2) (b * 2)
xor_twice a b =
    sym (add-zero (bit_xor a b * 2)) ∙ sym (xor_block 1 a b 0 0 (omega arith) (omega arith))
    ∙ ap₂ bit_xor (add-zero (a * 2)) (add-zero (b * 2))
