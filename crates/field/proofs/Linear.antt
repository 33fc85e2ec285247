-- xtime is linear over exclusive or, and the products of MixColumns are made of it.
-- Assumes nothing.
use mathlib.Core.Path.{◌≡◌, refl, sym, ap, ap₂, ◌∙◌}
use Prim.Native.Nat.{ℕ, ◌*◌, ◌/◌, ◌%◌, ◌<◌}
use native.Mathlib.Omega.{arith}
use lib.Bits.{bit_xor, xor_lt, xor_shr, xor_mod}
use Rattle.laws.proofs.Agree.{agreed}
use Rattle.laws.proofs.Xor.{of_digits, xor_assoc, xor_cross, xor_twice}
use Rattle.field.specs.Field.{◌⊕◌, xtime, mul_digits, mul}

-- the seven low digits, moved up
moved : ℕ → ℕ
moved b = b % 128 * 2

-- what is left of m(x), where the top digit is 1
reduced : ℕ → ℕ
reduced b = b / 128 * 0x1b

xtime_apart : (b : ℕ) → b < 256 → xtime b ≡ moved b ⊕ reduced b
unfolding xtime moved reduced
xtime_apart b h = agreed xtime (λ x. moved x ⊕ reduced x) 256 tt b h

moved_xor : (a b : ℕ) → moved (a ⊕ b) ≡ moved a ⊕ moved b
unfolding moved
moved_xor a b = ap (λ (x : ℕ). x * 2) (xor_mod a b 7) ∙ xor_twice (a % 128) (b % 128)

-- of two digits
top_xor : (h k : ℕ) → h < 2 → k < 2 → (h ⊕ k) * 0x1b ≡ (h * 0x1b) ⊕ (k * 0x1b)
top_xor = of_digits (λ h k. (h ⊕ k) * 0x1b ≡ (h * 0x1b) ⊕ (k * 0x1b)) refl refl refl refl

reduced_xor : (a b : ℕ) → a < 256 → b < 256 → reduced (a ⊕ b) ≡ reduced a ⊕ reduced b
unfolding reduced
reduced_xor a b ha hb =
    ap (λ (x : ℕ). x * 0x1b) (xor_shr a b 7) ∙ top_xor (a / 128) (b / 128) (omega arith) (omega arith)

-- x • (a + b) = x • a + x • b
pub xtime_xor : (a b : ℕ) → a < 256 → b < 256 → xtime (a ⊕ b) ≡ xtime a ⊕ xtime b
xtime_xor a b ha hb =
    xtime_apart (a ⊕ b) (xor_lt 8 a b ha hb)
    ∙ ap₂ bit_xor (moved_xor a b) (reduced_xor a b ha hb)
    ∙ xor_cross (moved a) (moved b) (reduced a) (reduced b)
    ∙ ap₂ bit_xor (sym (xtime_apart a ha)) (sym (xtime_apart b hb))

-- {02} • b is xtime b
mul_two : (b : ℕ) → mul 2 b ≡ xtime b
unfolding mul_digits xtime
mul_two b = refl

-- {03} • b is xtime b + b
mul_three : (b : ℕ) → mul 3 b ≡ xtime b ⊕ b
unfolding mul_digits xtime
mul_three b = refl

-- one byte of MixColumns with one doubling in place of two
pub mix_once : (a b c d : ℕ) → a < 256 → b < 256 → mul 2 (a ⊕ b) ⊕ b ⊕ (c ⊕ d) ≡ mul 2 a ⊕ mul 3 b ⊕ c ⊕ d
mix_once a b c d ha hb =
    sym (xor_assoc (mul 2 (a ⊕ b) ⊕ b) c d)
    ∙ ap (λ (x : ℕ). x ⊕ c ⊕ d)
    (ap (λ (x : ℕ). x ⊕ b) (mul_two (a ⊕ b) ∙ xtime_xor a b ha hb ∙ ap₂ bit_xor (sym (mul_two a)) refl)
    ∙ xor_assoc (mul 2 a) (xtime b) b
    ∙ ap (bit_xor (mul 2 a)) (sym (mul_three b)))
