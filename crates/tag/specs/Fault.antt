-- The faults of a tag length and of a tag slice.
-- Assumes nothing.
use Rattle.std.specs.Prelude.{[], ◌∷◌, ℕ, eqb}
use Rattle.laws.specs.Fault.{unless, first_fault}
use Rattle.numbers.specs.Numbers.{bad_size}
use Rattle.keys.specs.SetNumber.{bits_number}
use Rattle.tag.specs.Tag.{tag_bytes}

-- 3: a tag slice of n bytes is not of just the bytes that a tag of p bits occupies
unfoldable pub size_number : ℕ → ℕ → ℕ
size_number p n = unless (eqb n (tag_bytes p)) bad_size

-- the number of the first fault of a tag length and a tag slice of n bytes: 2, there is no tag of p bits; 3
unfoldable pub tag_number : ℕ → ℕ → ℕ
tag_number p n = first_fault (bits_number p ∷ size_number p n ∷ [])
