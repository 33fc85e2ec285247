-- A quotient rounded up.
-- Assumes nothing.
use Rattle.std.specs.Prelude.{ℕ, ◌+◌, ◌-◌, ◌/◌}

-- n divided by k, rounded up
abbrev pub up : ℕ → ℕ → ℕ
up n k = (n + (k - 1)) / k
