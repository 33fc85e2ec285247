-- How subkeys stand in one array of 304 bytes: nineteen places of sixteen, fifteen for the parts of U_1 to U_5, then four for K_1^xor
-- to K_4^xor. The two accessors and the array that the key call hands back are said here, and Store.antt
-- says how the code fills it; nothing else knows an offset.
-- Assumes nothing.
use Rattle.std.specs.Prelude.{List, ℕ, ◌+◌, ◌-◌, ◌*◌, ◌/◌, ◌%◌, ltb, get_or}
use Rattle.laws.specs.Agree.{both, table}
use Rattle.laws.specs.Joined.{joined}
use Rattle.laws.specs.Pick.{pick}
use Rattle.laws.specs.UpTo.{up_to}
use Rattle.block.specs.Block.{Block, zeros}
use Rattle.pcmac.specs.Limits.{highest_order}
use Rattle.pcmac.specs.Keysch.{Subkeys, U, X}

-- the sixteen bytes at place n, from 0
abbrev pub place_at : List ℕ → ℕ → Block
place_at subkeys n = table (λ j. get_or subkeys (16 * n + j) 0) 16

-- the accessor of U_w^(j), for w from 1 to 5 and j from 1 to 3: what stands at its place, which the key call leaves zero beyond
-- its order. There is no other such place, and it answers zeros
unfoldable pub u_part : List ℕ → ℕ → ℕ → Block
u_part subkeys w j = pick (both (up_to highest_order w) (up_to 3 j)) (place_at subkeys (3 * (w - 1) + (j - 1))) zeros

-- the accessor of K_j^xor, for j from 1 to 4: what stands at its place, which the key call leaves zero beyond its order. There is no
-- other such place, and it answers zeros
unfoldable pub x_key : List ℕ → ℕ → Block
x_key subkeys j = pick (up_to (highest_order - 1) j) (place_at subkeys (15 + (j - 1))) zeros

-- what stands at place n: U_1^(1), U_1^(2), U_1^(3), U_2^(1), .., then K_1^xor, K_2^xor, ..; zeros beyond the order
abbrev pub placed : Subkeys → ℕ → Block
placed k n = pick (ltb n 15) (U k (n / 3 + 1) (n % 3 + 1)) (X k (n - 15 + 1))

-- the array of the subkeys
unfoldable pub arranged : Subkeys → List ℕ
arranged k = joined (table (placed k) 19)
