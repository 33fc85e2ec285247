-- Which tag lengths there are; and what is judged of a key set that is handed to a later call: its order and its tag length, and no
-- other byte.
-- Assumes nothing.
use Rattle.std.specs.Prelude.{[], ◌∷◌, ℕ}
use Rattle.laws.specs.Fault.{unless, first_fault}
use Rattle.laws.specs.UpTo.{up_to}
use Rattle.pcmac.specs.Limits.{highest_order, longest_tag}
use Rattle.keys.specs.declared.KeySet.{KeySet}
use Rattle.numbers.specs.Numbers.{bad_order, bad_tag_length}

-- 2: there is no tag of p bits
unfoldable pub bits_number : ℕ → ℕ
bits_number p = unless (up_to longest_tag p) bad_tag_length

-- the number of the first fault: 1, the order is 0 or above 5; 2, the tag length is 0 or above 128
unfoldable pub set_number : KeySet → ℕ
set_number k =
    first_fault (unless (up_to highest_order k.order) bad_order ∷ bits_number k.bits ∷ [])
