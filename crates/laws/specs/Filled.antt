-- A list at another length.
-- Assumes nothing.
use Rattle.std.specs.Prelude.{List, ℕ, get_or}
use Rattle.laws.specs.Agree.{table}

-- the first n entries of a list, and zeros where it has fewer
abbrev pub filled : ℕ → List ℕ → List ℕ
filled n x = table (λ j. get_or x j 0) n
