-- The test that a number is 1 to a highest, by its two bounds.
-- Assumes nothing.
use Rattle.std.proofs.Common.{◌≡◌, true, ℕ, ◌≤◌, leb, le-leb, leb-true}
use Rattle.laws.specs.UpTo.{up_to}
use Rattle.laws.proofs.Both.{both_holds}

module _ (most n : ℕ) where
  pub up_to_is : 1 ≤ n → n ≤ most → up_to most n ≡ true
  up_to_is a b = rw (le-leb 1 n a, le-leb n most b)

-- what the test tells
pub record Within (most n : ℕ) : Type 0 where
  pub low : 1 ≤ n
  pub high : n ≤ most

pub is_within : (most n : ℕ) → up_to most n ≡ true → Within most n
is_within most n e =
    let f = both_holds (leb 1 n) (leb n most) e in
    record { low = leb-true 1 n f.0; high = leb-true n most f.1 }
