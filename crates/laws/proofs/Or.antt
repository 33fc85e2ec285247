-- What an or of two numbers tells of each: where none of its bits is set, none of either's is.
-- Assumes nothing.
use Rattle.std.proofs.Common.{◌≡◌, ℕ, arith, bit_or}
use lib.Bits.{and_le_l, and_le_r, or_add_and}

pub or_none : (a b : ℕ) → bit_or a b ≡ 0 → (a ≡ 0) × (b ≡ 0)
or_none a b e =
    let s = or_add_and a b in
    (omega (arith, and_le_r a b), omega (arith, and_le_l a b))
