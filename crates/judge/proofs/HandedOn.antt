-- The first of several faults, where `?` hands each on before the next is judged.
-- Assumes nothing.
use Rattle.std.proofs.Common.{◌≡◌, refl, List, ◌∷◌, ℕ, Err}
use Rattle.laws.specs.Fault.{first_fault}
use Rattle.laws.proofs.Fault.{fault_found, fault_pass}
use Rattle.numbers.specs.declared.Refusal.{Refusal}
use Rattle.numbers.specs.Told.{number}
use Rattle.numbers.proofs.Number.{not_done}

-- a fault that is found is handed on
pub first_err : (why : Refusal) {n : ℕ} (ns : List ℕ) → number {A = Unit {0}} (Err why) ≡ n
    → number {A = Unit {0}} (Err why) ≡ first_fault (n ∷ ns)
unfolding number
first_err why ns e = fault_found ns e (not_done why)

-- where there is none, the next ones are judged
pub first_ok : {n r : ℕ} (ns : List ℕ) → 0 ≡ n → r ≡ first_fault ns → r ≡ first_fault (n ∷ ns)
first_ok ns e f = fault_pass ns e refl f
