-- The step of Algorithm 2.2 (NEC's specification, section 2.5) under keys as they lie in a key set, a run of whole blocks, and the
-- closing step.
-- Assumes nothing.
use Rattle.std.specs.Prelude.{Bool, List, ℕ, ◌+◌, ◌/◌, ◌^◌, eqb, leb, length}
use Rattle.laws.specs.Agree.{both}
use Rattle.laws.specs.Pick.{pick}
use Rattle.aes.specs.Cipher.{cipher}
use Rattle.block.specs.Block.{Block, ◌⊕◌, padded}
use Rattle.chain.specs.declared.Chain.{Chain}
use Rattle.chain.specs.Stream.{after}
use Rattle.chain.specs.Walk.{Step, walk}
use Rattle.pcmac.specs.Taggen.{step}
use Rattle.keys.specs.Arrangement.{u_part, x_key}

-- 2.5: the step with E under these round keys, and with the subkeys of this array
unfoldable pub chain_step : List ℕ → List ℕ → Step
chain_step round subkeys = step (cipher round) (u_part subkeys) (x_key subkeys)

-- 2.5: the chain after the whole blocks of a part, which are blocks done + 1, done + 2, .. of the message
unfoldable pub walked : ℕ → List ℕ → List ℕ → ℕ → Chain → List ℕ → Chain
walked d round subkeys done c part =
    walk d (chain_step round subkeys) (after done part) (done + 1) (length part / 16) c

-- half of what a count can hold: a part has fewer blocks than the other half
abbrev pub count_limit : ℕ
count_limit = 2 ^ 63

-- a chain whose counts have room for the blocks of any part
unfoldable pub roomy : Chain → Bool
roomy c = both (leb c.whole count_limit) (leb c.four count_limit)

-- the chain after a run of whole blocks; where its counts have no room, the chain as it is
unfoldable pub absorbed : ℕ → List ℕ → List ℕ → ℕ → Chain → List ℕ → Chain
absorbed d round subkeys done c part = pick (roomy c) (walked d round subkeys done c part) c

-- what the closing step encrypts: the last block, padded, added to the chain value and to the mask, one for a full block and one for a
-- shorter one
unfoldable pub closing : Block → Block → Block → List ℕ → Block
closing full short s last = pick (eqb (length last) 16) full short ⊕ (s ⊕ padded last)

-- 2.5: the chain after the closing step, a whole-cipher step, counted as it is taken
unfoldable pub sealing : List ℕ → Block → Block → Chain → List ℕ → Chain
sealing round full short c last = record {
  value = cipher round (closing full short c.value last);
  whole = c.whole + 1;
  four = c.four;
}

-- the same; where the counts have no room, the chain as it is
unfoldable pub sealed_by : List ℕ → Block → Block → Chain → List ℕ → Chain
sealed_by round full short c last = pick (roomy c) (sealing round full short c last) c
