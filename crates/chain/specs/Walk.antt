-- The walk of Algorithm 2.2 (NEC's specification, section 2.5) over numbered blocks, for any order d from 0 up and any step. The number of
-- the block steers it; the counts are what it produces.
-- Assumes nothing.
use Rattle.std.specs.Prelude.{ℕ, zero, suc, ◌+◌, ◌-◌, ◌%◌}
use Rattle.block.specs.Block.{Block, zeros}
use Rattle.chain.specs.declared.Chain.{Chain}

-- a step: f w s b is the chain value after the block b, at place w of the cycle, from the chain value s
abbrev pub Step : Type 0
Step = ℕ → Block → Block → Block

-- s ← 0^128, and no step taken
abbrev pub begun : Chain
begun = record { value = zeros; whole = 0; four = 0 }

-- one step, counted as it is taken: a whole-cipher step where w = 0, otherwise a four-round step
unfoldable pub stepped : Step → ℕ → Block → Chain → Chain
stepped f zero b c = record { value = f zero c.value b; whole = c.whole + 1; four = c.four }
stepped f (suc w) b c = record { value = f (suc w) c.value b; whole = c.whole; four = c.four + 1 }

-- w = (i - 1) mod (d + 1): the place of block i in the cycle
abbrev pub place : ℕ → ℕ → ℕ
place d i = (i - 1) % (d + 1)

-- for n blocks, from block i on: M i is taken at its place
unfoldable pub walk : ℕ → Step → (ℕ → Block) → ℕ → ℕ → Chain → Chain
walk d f M i zero c = c
walk d f M i (suc n) c = walk d f M (i + 1) n (stepped f (place d i) (M i) c)
