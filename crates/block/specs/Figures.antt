-- Figures of doubling, proved: those that the outline marks P, one table under one statement about the definition.
-- Assumes nothing.
use Rattle.std.specs.Prelude.{◌≡◌, refl, List, [], ◌∷◌, ◌++◌, replicate}
use Rattle.laws.specs.Each.{Each}
use Rattle.block.specs.Bits.{binary, bits, value, bytes}
use Rattle.block.specs.Block.{Block, ◌⊕◌, shifted, msb, reduction, mul2}

-- a block, and the block that doubling makes of it
pub record Doubled : Type 0 where
  pub block : Block
  pub gives : Block

-- 80 and fifteen 00 gives fifteen 00 and 87; doubled again, fourteen 00, 01, 0E; sixteen FF gives fifteen FF and 79
abbrev pub doublings : List Doubled
doublings =
    record { block = 0x80 ∷ replicate 15 0x00; gives = replicate 15 0x00 ++ (0x87 ∷ []) }
    ∷ record { block = replicate 15 0x00 ++ (0x87 ∷ []); gives = replicate 14 0x00 ++ (0x01 ∷ 0x0e ∷ []) }
    ∷ record { block = replicate 16 0xff; gives = replicate 15 0xff ++ (0x79 ∷ []) } ∷ []

-- mul2 gives each row of the table
abbrev pub DoublingsHold : Type 0
DoublingsHold = Each (λ row. mul2 row.block ≡ row.gives) doublings

-- and so it does
pub doublings_hold : DoublingsHold
unfolding mul2 shifted msb reduction bits bytes binary value ◌⊕◌
doublings_hold = (refl, (refl, (refl, tt)))
