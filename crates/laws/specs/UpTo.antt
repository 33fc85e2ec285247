-- Numbers from 1 to a highest.
-- Assumes nothing.
use Rattle.std.specs.Prelude.{Bool, ℕ, leb}
use Rattle.laws.specs.Agree.{both}

-- n is 1 to most
abbrev pub up_to : ℕ → ℕ → Bool
up_to most n = both (leb 1 n) (leb n most)
