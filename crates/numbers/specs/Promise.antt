-- What the public function of this crate promises, and that the promise leaves one answer.
-- Assumes nothing.
use Rattle.std.specs.Prelude.{◌≡◌, Result, ℕ}
use Rattle.std.proofs.Common.{sym, ◌∙◌}
use Rattle.numbers.specs.declared.Refusal.{Refusal}
use Rattle.numbers.specs.Told.{number}

-- told hands back the number of the refusal, and 0 where there is none
abbrev pub ToldPromise : Result Unit Refusal → ℕ → Type 0
ToldPromise outcome r = r ≡ number outcome

-- any two answers that told may give are equal
pub told_once : (outcome : Result Unit Refusal) (r r' : ℕ) → ToldPromise outcome r → ToldPromise outcome r' → r ≡ r'
told_once outcome r r' p q = p ∙ sym q
