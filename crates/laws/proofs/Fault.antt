-- The first fault, one test after the other.
-- Assumes nothing.
use Rattle.std.proofs.Common.{◌≡◌, refl, sym, ◌∙◌, Bool, true, false, List, [], ◌∷◌, ℕ, zero, suc, ◌≤◌, arith}
use Rattle.laws.specs.Fault.{unless, first_fault}

-- a test that holds, and one that fails
pub unless_holds : (n : ℕ) {t : Bool} → t ≡ true → 0 ≡ unless t n
unfolding unless
unless_holds n e = rw e

pub unless_fails : (n : ℕ) {t : Bool} → t ≡ false → n ≡ unless t n
unfolding unless
unless_fails n e = rw e

-- no fault, so the test holds
pub unless_none : (n : ℕ) (t : Bool) → unless t (suc n) ≡ 0 → t ≡ true
unfolding unless
unless_none n true e = refl
unless_none n false e = absurd (omega arith)

-- a fault that is found is the answer
pub fault_found : {r n : ℕ} (ns : List ℕ) → r ≡ n → (r ≡ 0 → ⊥) → r ≡ first_fault (n ∷ ns)
unfolding first_fault
fault_found {r} {n = zero} ns e h = absurd (h e)
fault_found {r} {n = suc n} ns e h = e

-- where the first test finds none, the next ones are judged
pub fault_pass : {q n r : ℕ} (ns : List ℕ) → q ≡ n → q ≡ 0 → r ≡ first_fault ns → r ≡ first_fault (n ∷ ns)
unfolding first_fault
fault_pass {q} {n = zero} ns e h f = f
fault_pass {q} {n = suc n} ns e h f = absurd (omega arith)

-- what the last test finds is the answer
pub fault_last : {r n : ℕ} → r ≡ n → r ≡ first_fault (n ∷ [])
unfolding first_fault
fault_last {r} {n = zero} e = e
fault_last {r} {n = suc n} e = e

-- none at all, so none at the first and none at the others
faultless : (n : ℕ) (ns : List ℕ) → first_fault (n ∷ ns) ≡ 0 → (n ≡ 0) × (first_fault ns ≡ 0)
unfolding first_fault
faultless zero ns e = (refl, e)
faultless (suc n) ns e = absurd (omega arith)

-- two, three and four numbers of which none is a fault, and back
module _ (a b : ℕ) where
  pub none_of_two : first_fault (a ∷ b ∷ []) ≡ 0 → (a ≡ 0) × (b ≡ 0)
  none_of_two e = let f = faultless a (b ∷ []) e in (f.0, fault_last refl ∙ f.1)

  pub two_none : a ≡ 0 → b ≡ 0 → first_fault (a ∷ b ∷ []) ≡ 0
  two_none x y = sym (fault_pass (b ∷ []) (sym x) refl (fault_last (sym y)))

module _ (a b c : ℕ) where
  pub none_of_three : first_fault (a ∷ b ∷ c ∷ []) ≡ 0 → (a ≡ 0) × (b ≡ 0) × (c ≡ 0)
  none_of_three e =
      let f = faultless a (b ∷ c ∷ []) e in
      let g = none_of_two b c f.1 in
      (f.0, g.0, g.1)

  pub three_none : a ≡ 0 → b ≡ 0 → c ≡ 0 → first_fault (a ∷ b ∷ c ∷ []) ≡ 0
  three_none x y z = sym (fault_pass (b ∷ c ∷ []) (sym x) refl (sym (two_none b c y z)))

module _ (a b c d : ℕ) where
  pub none_of_four : first_fault (a ∷ b ∷ c ∷ d ∷ []) ≡ 0 → (a ≡ 0) × (b ≡ 0) × (c ≡ 0) × (d ≡ 0)
  none_of_four e =
      let f = faultless a (b ∷ c ∷ d ∷ []) e in
      let g = none_of_three b c d f.1 in
      (f.0, g.0, g.1, g.2)

  pub four_none : a ≡ 0 → b ≡ 0 → c ≡ 0 → d ≡ 0 → first_fault (a ∷ b ∷ c ∷ d ∷ []) ≡ 0
  four_none x y z w = sym (fault_pass (b ∷ c ∷ d ∷ []) (sym x) refl (sym (three_none b c d y z w)))

-- no number is above the highest of those that may be given
pub unless_most : (t : Bool) (n : ℕ) → unless t n ≤ n
unfolding unless
unless_most true n = omega arith
unless_most false n = omega arith

pub fault_most : (m n : ℕ) (ns : List ℕ) → n ≤ m → first_fault ns ≤ m → first_fault (n ∷ ns) ≤ m
unfolding first_fault
fault_most m zero ns h l = l
fault_most m (suc n) ns h l = h

pub none_most : (m : ℕ) → first_fault [] ≤ m
unfolding first_fault
none_most m = omega arith
