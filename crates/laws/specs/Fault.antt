-- The number of the first fault, out of a list of tests in the order in which they are judged. 0 says that there is none.
-- Assumes nothing.
use Rattle.std.specs.Prelude.{Bool, true, false, List, [], ◌∷◌, ℕ, zero, suc}

-- 0 where the test holds, otherwise the number of the fault
unfoldable pub unless : Bool → ℕ → ℕ
unless true n = 0
unless false n = n

-- the first of the numbers that is not 0, and 0 where all are
unfoldable pub first_fault : List ℕ → ℕ
first_fault [] = 0
first_fault (zero ∷ ns) = first_fault ns
first_fault (suc n ∷ ns) = suc n
