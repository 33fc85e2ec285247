-- Of two numbers the first is below the second, or it is not; a number is 0, or it is not; a test by what was handed back of it.
-- Assumes nothing.
use mathlib.Core.Path.{◌≡◌, refl, sym, ◌∙◌}
use mathlib.Core.Bool.{Bool, true, false}
use mathlib.Core.Logic.{◌⊎◌, inl, inr, ⊎_elim}
use Prim.Native.Nat.{ℕ, zero, suc, ◌≤◌, ◌<◌}
use native.Mathlib.Omega.{arith}
use lib.Dec.{ltb}
use borrow.Author.Tests.{ltb-true, ltb-false}

pub below_or_not : (a b : ℕ) → (a < b) ⊎ (b ≤ a)
below_or_not a b = by (ltb a b) refl
  where
    by : (t : Bool) → ltb a b ≡ t → (a < b) ⊎ (b ≤ a)
    by true e = inl (ltb-true a b e)
    by false e = inr (ltb-false a b e)

pub none_or_some : (n : ℕ) → (n ≡ 0) ⊎ (n ≡ 0 → ⊥)
none_or_some zero = inl refl
none_or_some (suc n) = inr (λ z. omega arith)

-- of a number that is the first fault's wherever there is one, 0 tells that there is none
pub none_told : (fault : ℕ) {n : ℕ} → ((fault ≡ 0 → ⊥) → n ≡ fault) → n ≡ 0 → fault ≡ 0
none_told fault is z = ⊎_elim (λ e. e) (λ h. sym (is h) ∙ z) (none_or_some fault)

-- what was handed back of a test, and is not so, says that it fails
pub test_fails : {r t : Bool} → r ≡ t → r ≡ false → t ≡ false
test_fails {r} e h = sym e ∙ h

-- and otherwise that it holds
pub test_holds : {r t : Bool} → r ≡ t → r ≡ true → t ≡ true
test_holds {r} e h = sym e ∙ h
