-- The check of a tag: NEC's specification, section 2.6, Algorithm 2.3.
-- Assumes nothing.
use Rattle.std.specs.Prelude.{Bool, true, false, List, [], ◌∷◌, ◌++◌, ℕ, ◌-◌, eqb, length, replicate}
use Rattle.laws.specs.Agree.{both}
use Rattle.laws.specs.Pick.{pick}
use Rattle.block.specs.Block.{Block}
use Rattle.pcmac.specs.Taggen.{TAGGEN}

-- two lists of bits are the same
unfoldable pub same : List ℕ → List ℕ → Bool
same [] [] = true
same [] (y ∷ b) = false
same (x ∷ a) [] = false
same (x ∷ a) (y ∷ b) = both (eqb x y) (same a b)

-- Algorithm 2.3: TAGVER(d, p, K, L, M, T), 1 where T = T' for T' = TAGGEN(d, p, K, L, M), otherwise 0
unfoldable pub TAGVER : ℕ → ℕ → Block → Block → List ℕ → List ℕ → ℕ
TAGVER d p K L M T = pick (same T (TAGGEN d p K L M)) 1 0

-- this library's rule of acceptance, for a tag that comes in whole bytes, so that there may be spare bits behind its p: accepted are the
-- tag's bits and behind them zeros, as many as there are more, and nothing else
unfoldable pub accepted : ℕ → List ℕ → List ℕ → Bool
accepted p received tag = same received (tag ++ replicate (length received - p) 0)
