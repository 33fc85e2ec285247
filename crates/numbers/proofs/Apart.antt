-- No two numbers that a call may give are the same.
-- Assumes nothing.
use mathlib.Core.Bool.{Bool, true, ◌&&◌}
use mathlib.Core.List.{List, [], ◌∷◌}
use Prim.Native.Nat.{ℕ}
use lib.Dec.{T, ltb}
use Rattle.numbers.specs.Numbers.{numbers}

-- each of some numbers is below the next
abbrev rising : List ℕ → Bool
rising [] = true
rising (a ∷ []) = true
rising (a ∷ b ∷ ns) = ltb a b && rising (b ∷ ns)

-- one number, one meaning
pub apart : T (rising numbers)
apart = tt
