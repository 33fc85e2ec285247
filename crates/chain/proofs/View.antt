-- The stream's view is the walk of Algorithm 2.2: after a message, the chain is that of its blocks 1 to m - 1 and what is held is M_m.
-- Assumes nothing.
use mathlib.Core.Path.{◌≡◌, ap, sym}
use mathlib.Core.List.{List}
use Prim.Native.Nat.{ℕ, ◌-◌}
use native.Mathlib.Omega.{arith}
use lib.ListN.{length}
use Rattle.block.specs.Block.{blocks, block_of}
use Rattle.block.proofs.Blocks.{block_last}
use Rattle.chain.specs.Walk.{Step, begun, walk}
use Rattle.chain.specs.Stream.{start, settled, after, add}
use Rattle.chain.proofs.Walk.{walk_blocks}
use Rattle.chain.proofs.Count.{Closed, closed}

-- the settled blocks, walked, are Algorithm 2.2's walk for i from 1 to m - 1
pub view_chain : (d : ℕ) (f : Step) (m : List ℕ)
    → (add d f start m).chain ≡ walk d f (block_of m) 1 (blocks (length m) - 1) begun
unfolding add settled
view_chain d f m =
    walk_blocks d f (after 0 m) (block_of m) 1 (blocks (length m) - 1) begun
    (λ j a b. let e : j - 0 ≡ j = omega arith in ap (block_of m) e)

-- the bytes held are the last block
pub view_held : (d : ℕ) (f : Step) (m : List ℕ) → (add d f start m).held ≡ block_of m (blocks (length m))
unfolding add settled
view_held d f m = sym (block_last m)

-- the counts of the state of m are the closed formulas
pub view_counts : (d : ℕ) (f : Step) (m : List ℕ) → Closed d (length m) (add d f start m).chain
view_counts d f m = rw (view_chain d f m) (closed d f m)
