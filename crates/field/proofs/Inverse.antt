-- What `inverse` computes is the multiplicative inverse: its product with the byte is {01}, at every byte but {00}, which stays.
-- Assumes nothing.
use mathlib.Core.Path.{◌≡◌, refl, sym, ◌∙◌}
use mathlib.Core.Bool.{Bool, true, false}
use Prim.Native.Nat.{ℕ, zero, suc, ◌<◌}
use native.Mathlib.Omega.{arith}
use lib.Dec.{eqb}
use borrow.Author.Tests.{eqb-true}
use Rattle.laws.specs.Pick.{pick}
use Rattle.laws.proofs.Agree.{agreed}
use Rattle.field.specs.Field.{xtime, mul_digits, mul}
use Rattle.field.specs.Sbox.{inverse, pow_digits}

one : ℕ → ℕ
one zero = 0
one (suc b) = 1

-- what is 1 at each nonzero number below 256
at_nonzero : (f : ℕ → ℕ) → ((b : ℕ) → b < 256 → f b ≡ one b) → (b : ℕ) → 0 < b → b < 256 → f b ≡ 1
unfolding one
at_nonzero f e zero h l = absurd (omega arith)
at_nonzero f e (suc b) h l = e (suc b) l

-- the products of a and b from either side, if they are the same; otherwise 2
either : ℕ → ℕ → ℕ
either a b = pick (eqb (mul a b) (mul b a)) (mul a b) 2

-- where that is 1, so is each of them
either_one : (a b : ℕ) → either a b ≡ 1 → (mul a b ≡ 1) × (mul b a ≡ 1)
unfolding either
either_one a b = by (eqb (mul a b) (mul b a)) refl
  where
    by : (t : Bool) → eqb (mul a b) (mul b a) ≡ t → pick t (mul a b) 2 ≡ 1 → (mul a b ≡ 1) × (mul b a ≡ 1)
    by true e h = (h, sym (eqb-true _ _ e) ∙ h)
    by false e h = absurd (omega arith)

-- one test over all bytes
both_sides : (b : ℕ) → 0 < b → b < 256 → (mul b (inverse b) ≡ 1) × (mul (inverse b) b ≡ 1)
unfolding inverse pow_digits mul_digits xtime one either
both_sides b h l =
    either_one b (inverse b) (at_nonzero (λ x. either x (inverse x)) (agreed (λ x. either x (inverse x)) one 256 tt) b h l)

pub mul_inverse : (b : ℕ) → 0 < b → b < 256 → mul b (inverse b) ≡ 1
mul_inverse b h l = (both_sides b h l).0

pub inverse_mul : (b : ℕ) → 0 < b → b < 256 → mul (inverse b) b ≡ 1
inverse_mul b h l = (both_sides b h l).1

pub inverse_zero : inverse 0 ≡ 0
unfolding inverse pow_digits mul_digits xtime
inverse_zero = refl
