-- A call's number by its faults, from the list of the tests that are judged one after the other.
-- Assumes nothing.
use Rattle.std.specs.Prelude.{◌≡◌, refl, Bool, true, false, not, ◌⊎◌, ◌↔◌, List, [], ◌∷◌, ℕ, zero, suc, ◌≤◌, ◌<◌, eqb, leb, ltb}
use Rattle.std.proofs.Common.{ap, sym, subst, ◌∙◌, inl, inr, ⊎_elim, arith, lt-ltb, le-ltb, ltb-true, ltb-false, leb-false, ne_eqb}
use borrow.Author.Tests.{lt-leb, eqb-false, not-false}
use Rattle.laws.specs.Agree.{both}
use Rattle.laws.specs.Fault.{unless, first_fault}
use Rattle.laws.specs.UpTo.{up_to}
use Rattle.laws.proofs.Cases.{none_told}
use Rattle.laws.proofs.Fault.{unless_holds, unless_fails, fault_found, fault_pass}
use Rattle.demands.specs.Numbers.{Done}

-- a call's number n, by the number of its first fault: it is that, and where there is none, as `last` says
pub record By (fault : ℕ) (last : ℕ → Type 0) (n : ℕ) : Type 0 where
  pub some : (fault ≡ 0 → ⊥) → n ≡ fault
  pub none : fault ≡ 0 → last n

-- it is that number, 0 too
pub by_fault : {fault n : ℕ} → n ≡ fault → By fault Done n
by_fault e = record { some = λ h. e; none = λ z. e ∙ z }

-- number 0 says that there is no fault
pub no_fault : {fault n : ℕ} {last : ℕ → Type 0} → By fault last n → n ≡ 0 → fault ≡ 0
no_fault b z = none_told _ b.some z

-- a test fails or holds
held : {t : Bool} → (t ≡ false → ⊥) → t ≡ true
held {t = true} h = refl
held {t = false} h = absurd (h refl)

module _ {last : ℕ → Type 0} {n : ℕ} where
  -- a test of number m + 1, and then the others: where its failing says what a fault is, the fault gives that number, and where there is
  -- no such fault, the others give one
  pub judged : (m : ℕ) {t : Bool} (ns : List ℕ) {fault rest : Type 0} → fault ↔ (t ≡ false) → (By (first_fault ns) last n → rest)
      → By (first_fault (unless t (suc m) ∷ ns)) last n → (fault → n ≡ suc m) × ((fault → ⊥) → rest)
  judged m {t} ns tells others b = (
    λ h.
        let e = fault_found ns (unless_fails (suc m) (tells.0 h)) (λ z. omega arith) in
        b.some (λ z. omega arith) ∙ sym e,
    λ h.
        let e : first_fault ns ≡ first_fault (unless t (suc m) ∷ ns) =
        fault_pass ns (unless_holds (suc m) (held (λ q. h (tells.1 q)))) refl refl in
        others (subst (λ (f : ℕ). By f last n) (sym e) b),
  )

  -- no test is left
  pub at_last : By (first_fault []) last n → last n
  unfolding first_fault
  at_last b = b.none refl

-- a call's number that is another than a fault's is given by the rest
pub passed : {fault rest : Type 0} {number n : ℕ} → (fault → n ≡ number) × ((fault → ⊥) → rest) → (n ≡ number → ⊥) → rest
passed g other = g.1 (λ f. other (g.0 f))

-- two tests judged as one are judged one after the other
pub two_first : (a b : ℕ) (ns : List ℕ) → first_fault (first_fault (a ∷ b ∷ []) ∷ ns) ≡ first_fault (a ∷ b ∷ ns)
unfolding first_fault
two_first zero zero ns = refl
two_first zero (suc b) ns = refl
two_first (suc a) b ns = refl

-- what the tests' failing says
pub tells_most : (n most : ℕ) → (most < n) ↔ (leb n most ≡ false)
tells_most n most = (lt-leb n most, leb-false n most)

pub tells_some : (n : ℕ) → (n ≡ 0) ↔ (leb 1 n ≡ false)
tells_some n = (λ z. lt-leb 1 n (omega arith), λ e. let l = leb-false 1 n e in omega arith)

pub tells_above : (n bound : ℕ) → (n ≤ bound) ↔ (ltb bound n ≡ false)
tells_above n bound = (le-ltb bound n, ltb-false bound n)

pub tells_not_above : (n most : ℕ) → (most < n) ↔ (not (ltb most n) ≡ false)
tells_not_above n most = (λ l. ap not (lt-ltb most n l), λ e. ltb-true most n (not-false (ltb most n) e))

pub tells_equal : (n m : ℕ) → (n ≡ m → ⊥) ↔ (eqb n m ≡ false)
tells_equal n m = (ne_eqb n m, eqb-false n m)

pub tells_itself : (t : Bool) → (t ≡ false) ↔ (t ≡ false)
tells_itself t = (λ e. e, λ e. e)

-- of two tests together: that one of them fails
both_none : (s : Bool) → both s false ≡ false
both_none true = refl
both_none false = refl

both_fails : (s t : Bool) → both s t ≡ false → (s ≡ false) ⊎ (t ≡ false)
both_fails true t e = inr e
both_fails false t e = inl refl

pub tells_both : (s t : Bool) {F G : Type 0} → F ↔ (s ≡ false) → G ↔ (t ≡ false) → (F ⊎ G) ↔ (both s t ≡ false)
tells_both s t f g = (
  ⊎_elim (λ x. ap (λ (b : Bool). both b t) (f.0 x)) (λ y. ap (both s) (g.0 y) ∙ both_none s),
  λ e. ⊎_elim (λ x. inl (f.1 x)) (λ y. inr (g.1 y)) (both_fails s t e),
)

pub tells_up_to : (most n : ℕ) → ((n ≡ 0) ⊎ (most < n)) ↔ (up_to most n ≡ false)
tells_up_to most n = tells_both (leb 1 n) (leb n most) (tells_some n) (tells_most n most)
