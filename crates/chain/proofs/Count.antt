-- The counts that the walk produces are the closed formulas, and a part takes no more steps than it may.
-- Assumes nothing.
use mathlib.Core.Path.{◌≡◌, refl, sym, ◌∙◌}
use mathlib.Core.List.{List, ◌++◌}
use Prim.Native.Nat.{ℕ, zero, suc, ◌+◌, ◌-◌, ◌%◌, ◌≤◌}
use native.Mathlib.Nat.{add-zero, zero-add}
use native.Mathlib.Omega.{arith}
use lib.ListN.{length, length-append}
use Rattle.laws.specs.Up.{up}
use Rattle.laws.proofs.Up.{first, up_none, up_more, up_sum, up_mono}
use Rattle.block.specs.Block.{Block, blocks, block_of}
use Rattle.chain.specs.declared.Chain.{Chain}
use Rattle.chain.specs.Count.{whole_for, four_for}
use Rattle.chain.specs.Walk.{Step, begun, stepped, place, walk}
use Rattle.chain.specs.Stream.{State, settled, after, add}
use Rattle.chain.proofs.Walk.{place_after}

-- the counts of a chain that has taken n steps in all: of these, n over d + 1, rounded up, whole-cipher steps
pub record Counted (d n : ℕ) (c : Chain) : Type 0 where
  pub steps : c.whole + c.four ≡ n
  pub wholes : c.whole ≡ up n (d + 1)

-- no step taken
pub counted_none : (d : ℕ) → Counted d 0 begun
counted_none d = record { steps = refl; wholes = sym (up_none d) }

-- a step at place w is one of the two kinds
stepped_whole : (f : Step) (w : ℕ) (b : Block) (c : Chain) → (stepped f w b c).whole ≡ c.whole + first w
unfolding stepped
stepped_whole f zero b c = refl
stepped_whole f (suc w) b c = sym (add-zero c.whole)

stepped_all : (f : Step) (w : ℕ) (b : Block) (c : Chain) → (stepped f w b c).whole + (stepped f w b c).four ≡ c.whole + c.four + 1
unfolding stepped
stepped_all f zero b c = omega arith
stepped_all f (suc w) b c = omega arith

-- what k blocks behind the first n add, whatever the counts were
pub record Added (d n k : ℕ) (before after : Chain) : Type 0 where
  pub steps_added : after.whole + after.four ≡ before.whole + before.four + k
  pub wholes_added : after.whole + up n (d + 1) ≡ before.whole + up (n + k) (d + 1)

pub walk_added : (d : ℕ) (f : Step) (M : ℕ → Block) (n k : ℕ) (c : Chain) → Added d n k c (walk d f M (n + 1) k c)
unfolding walk
walk_added d f M n zero c = record { steps_added = omega arith; wholes_added = rw add-zero }
walk_added d f M n (suc k) c =
    let b = M (n + 1) in
    let c' = stepped f (place d (n + 1)) b c in
    let g = walk_added d f M (n + 1) k c' in
    let e : n + suc k ≡ n + 1 + k = omega arith in
    let w : c'.whole ≡ c.whole + first (n % (d + 1)) = stepped_whole f (place d (n + 1)) b c ∙ rw (place_after d n) in
    record {
      steps_added = omega (arith, g.steps_added, stepped_all f (place d (n + 1)) b c);
      wholes_added = rw e (omega (arith, g.wholes_added, w, up_more d n));
    }

-- k blocks more: the counts stay those of the blocks taken
pub counted_walk : (d : ℕ) (f : Step) (M : ℕ → Block) (n k : ℕ) (c : Chain) → Counted d n c
    → Counted d (n + k) (walk d f M (n + 1) k c)
counted_walk d f M n k c h =
    let g = walk_added d f M n k c in
    record { steps = omega (arith, g.steps_added, h.steps); wholes = omega (arith, g.wholes_added, h.wholes) }

-- the counts of a message of n bytes are the closed formulas
pub record Closed (d n : ℕ) (c : Chain) : Type 0 where
  pub whole_is : c.whole ≡ whole_for d n
  pub four_is : c.four ≡ four_for d n

-- the counts of Algorithm 2.2's own walk
pub closed : (d : ℕ) (f : Step) (m : List ℕ) → Closed d (length m) (walk d f (block_of m) 1 (blocks (length m) - 1) begun)
closed d f m =
    let g : Counted d (0 + (blocks (length m) - 1)) (walk d f (block_of m) (0 + 1) (blocks (length m) - 1) begun) =
    counted_walk d f (block_of m) 0 (blocks (length m) - 1) begun (counted_none d) in
    let g' = rw zero-add at g in
    record { whole_is = g'.wholes; four_is = omega (arith, g'.steps, g'.wholes) }

-- what a part of n bytes may take: n / 16 steps, rounded up; of these that number over d + 1, rounded up, whole-cipher steps
pub record Bounded (d n : ℕ) (before after : Chain) : Type 0 where
  pub steps_most : after.whole + after.four ≤ before.whole + before.four + up n 16
  pub wholes_most : after.whole ≤ before.whole + up (up n 16) (d + 1)

-- THE BOUND: a part of n bytes, added to a state that holds at most one block, takes no more steps than n bytes may
pub bounded : (d : ℕ) (f : Step) (s : State) (p : List ℕ) → length s.held ≤ 16
    → Bounded d (length p) s.chain (add d f s p).chain
unfolding add settled blocks
bounded d f s p h =
    let x = s.held ++ p in
    let k = settled (length x) in
    let most : settled (length x) ≤ up (length p) 16 = simp length-append (omega arith) in
    let g : Added d s.done k s.chain (add d f s p).chain =
    walk_added d f (after s.done x) s.done k s.chain in
    record {
      steps_most = omega (arith, g.steps_added);
      wholes_most = omega (arith, g.wholes_added, up_sum d s.done k, up_mono d k (up (length p) 16) most);
    }

-- n blocks raise neither count by more than n
pub record Raised (n : ℕ) (before after : Chain) : Type 0 where
  pub whole_most : after.whole ≤ before.whole + n
  pub four_most : after.four ≤ before.four + n

stepped_raised : (f : Step) (w : ℕ) (b : Block) (c : Chain) → Raised 1 c (stepped f w b c)
unfolding stepped
stepped_raised f zero b c = record { whole_most = omega arith; four_most = omega arith }
stepped_raised f (suc w) b c = record { whole_most = omega arith; four_most = omega arith }

pub walk_raised : (d : ℕ) (f : Step) (M : ℕ → Block) (i n : ℕ) (c : Chain) → Raised n c (walk d f M i n c)
unfolding walk
walk_raised d f M i zero c = record { whole_most = omega arith; four_most = omega arith }
walk_raised d f M i (suc n) c =
    let s = stepped_raised f (place d i) (M i) c in
    let g = walk_raised d f M (i + 1) n (stepped f (place d i) (M i) c) in
    record {
      whole_most = omega (arith, s.whole_most, g.whole_most);
      four_most = omega (arith, s.four_most, g.four_most);
    }
