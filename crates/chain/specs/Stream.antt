-- The chain as a stream sees it: blocks that are known not to be the last are settled, the bytes after them are held.
-- Assumes nothing.
use Rattle.std.specs.Prelude.{List, [], ◌∷◌, ◌++◌, ℕ, ◌+◌, ◌-◌, ◌*◌, length, drop}
use Rattle.block.specs.Block.{Block, blocks, block_of}
use Rattle.chain.specs.declared.Chain.{Chain}
use Rattle.chain.specs.Walk.{Step, begun, walk}

-- of a message of which n bytes are known, how many blocks cannot be the last: all but one
unfoldable pub settled : ℕ → ℕ
settled n = blocks n - 1

-- the number of settled blocks, the chain after them, and the bytes held
pub record State : Type 0 where
  pub done : ℕ
  pub chain : Chain
  pub held : List ℕ

-- of no bytes
abbrev pub start : State
start = record { done = 0; chain = begun; held = [] }

-- the blocks of x, numbered from n + 1 on, as they stand behind n blocks of a message
abbrev pub after : ℕ → List ℕ → ℕ → Block
after n x i = block_of x (i - n)

-- a part more: what it settles is walked, with the numbers that follow, and the rest is held
unfoldable pub add : ℕ → Step → State → List ℕ → State
add d f s part = record {
  done = s.done + settled (length (s.held ++ part));
  chain = walk d f (after s.done (s.held ++ part)) (s.done + 1) (settled (length (s.held ++ part))) s.chain;
  held = drop (16 * settled (length (s.held ++ part))) (s.held ++ part);
}

-- part after part
unfoldable pub add_all : ℕ → Step → State → List (List ℕ) → State
add_all d f s [] = s
add_all d f s (p ∷ ps) = add_all d f (add d f s p) ps
