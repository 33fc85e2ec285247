-- The four-round function G of NEC's specification of PC-MAC-AES, sections 2.2 and 2.3, over the rounds of FIPS 197.
-- Assumes nothing.
use Rattle.std.specs.Prelude.{ℕ, List}
use Rattle.state.specs.State.{load, store}
use Rattle.aes.specs.Cipher.{unkeyed_round, keyed_round}

-- 2.3: no key before the first round; U1, U2, U3, each read as a block is, after the first three; nothing after the fourth, which
-- keeps ShiftRows and MixColumns
unfoldable pub four_rounds : List ℕ → List ℕ → List ℕ → List ℕ → List ℕ
four_rounds u1 u2 u3 block =
    store (unkeyed_round (keyed_round (keyed_round (keyed_round (load block) (load u1)) (load u2)) (load u3)))
