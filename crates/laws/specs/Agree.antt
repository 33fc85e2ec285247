-- One test over all numbers below n that two functions agree, and the list of a function's values: for tables.
-- Assumes nothing.
use Rattle.std.specs.Prelude.{Bool, true, false, List, [], ◌∷◌, ℕ, zero, suc, eqb}

-- a and b both hold
abbrev pub both : Bool → Bool → Bool
both true b = b
both false b = false

-- f and g have the same value at each number below n
abbrev pub agree : (ℕ → ℕ) → (ℕ → ℕ) → ℕ → Bool
agree f g zero = true
agree f g (suc n) = both (eqb (f n) (g n)) (agree f g n)

-- f i, f (i + 1), .., n of them
abbrev pub from : {A : Type 0} → ℕ → ℕ → (ℕ → A) → List A
from i zero f = []
from i (suc n) f = f i ∷ from (suc i) n f

-- the table of f: f 0, f 1, .., f (n - 1)
abbrev pub table : {A : Type 0} → (ℕ → A) → ℕ → List A
table f n = from 0 n f
