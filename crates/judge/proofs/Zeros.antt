-- Lists of zeros: from a place on, one byte after the other, and what the test tells.
-- Assumes nothing.
use Rattle.std.proofs.Common.{IsTrue, ◌↔◌, EachIndex, Bool, ◌≡◌, refl, ap, sym, ◌∙◌, true, false, List, [], ◌∷◌, ℕ, zero, suc, arith, eqb}
use Rattle.std.proofs.Common.{length, get_or, replicate, eqb-true, eq-eqb}
use Rattle.std.proofs.Math.ListN.{get_or-replicate}
use Rattle.laws.proofs.Both.{both_holds}
use Rattle.judge.specs.Stream.{all_zero}

-- the test tells that they are zeros
pub zeros_are : (l : List ℕ) → all_zero l ≡ true → l ≡ replicate (length l) 0
unfolding all_zero
zeros_are [] e = refl
zeros_are (x ∷ l) e =
    let f = both_holds (eqb x 0) (all_zero l) e in
    rw (eqb-true x 0 f.0) (ap (λ (r : List ℕ). 0 ∷ r) (zeros_are l f.1))

-- and zeros pass it
pub are_zeros : (n : ℕ) → all_zero (replicate n 0) ≡ true
unfolding all_zero
are_zeros zero = refl
are_zeros (suc n) = are_zeros n

-- bytes of which each is zero pass it
each_zero : (l : List ℕ) → EachIndex l (λ k. get_or l k 0 ≡ 0) → all_zero l ≡ true
unfolding all_zero
each_zero [] h = refl
each_zero (x ∷ l) h =
    rw (eq-eqb x 0 (h 0 (omega arith))) (each_zero l (λ k b. h (suc k) (omega arith)))

-- a test that holds exactly where each byte is zero is this one
pub zeros_test : (t : Bool) (l : List ℕ) → (IsTrue t ↔ EachIndex l (λ k. get_or l k 0 ≡ 0)) → t ≡ all_zero l
zeros_test t l e = by t (all_zero l) refl refl
  where
    by : (a b : Bool) → t ≡ a → all_zero l ≡ b → t ≡ all_zero l
    by true b p q = p ∙ sym (each_zero l (e.0 p))
    by false false p q = p ∙ sym q
    by false true p q =
        e.1 (λ k h. ap (λ (x : List ℕ). get_or x k 0) (zeros_are l q) ∙ get_or-replicate (length l) k 0 0 h) ∙ sym q
