-- In what two tags differ, gathered over every byte: the comparison of tags, in one number.
-- Assumes nothing.
use Rattle.std.specs.Prelude.{List, ℕ, zero, suc, get_or}
use Rattle.std.specs.Int.Bits.{bit_or, bit_xor}

-- the or, over the first n bytes of x and y, of the exclusive ors of byte and byte: a bit of it is set exactly where one of these bytes of
-- x differs in that bit from y's
unfoldable pub differences : ℕ → List ℕ → List ℕ → ℕ
differences zero x y = 0
differences (suc n) x y = bit_or (differences n x y) (bit_xor (get_or x n 0) (get_or y n 0))
