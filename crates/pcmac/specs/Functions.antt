-- The two functions that PC-MAC-AES is made of: NEC's specification, section 2.2.
-- Assumes nothing.
use Rattle.std.specs.Prelude.{ℕ}
use Rattle.aes.specs.Cipher.{cipher}
use Rattle.aes.specs.FourRounds.{four_rounds}
use Rattle.aes.specs.Schedule.{schedule}
use Rattle.block.specs.Block.{Block}

-- 2.2: E_K, the encryption function of AES under the 128-bit key K
abbrev pub E : Block → Block → Block
E K = cipher (schedule K)

-- 2.2: G_U, the four-round function of AES under U = U^(1) ‖ U^(2) ‖ U^(3), given by its parts
abbrev pub G : (ℕ → Block) → Block → Block
G u x = four_rounds (u 1) (u 2) (u 3) x
