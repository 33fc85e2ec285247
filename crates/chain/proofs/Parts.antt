-- A part as code takes it: where held bytes and part make no more than a block, they are held; where they make more, the held block is
-- filled up and taken, the whole blocks behind it are taken where they lie, and what is left is held.
-- Assumes nothing.
use mathlib.Core.Path.{◌≡◌, ap, sym, ◌∙◌}
use mathlib.Core.List.{List, ◌++◌, append_assoc}
use Prim.Native.Nat.{ℕ, ◌+◌, ◌-◌, ◌*◌, ◌≤◌, ◌<◌}
use native.Mathlib.Nat.{add-zero}
use native.Mathlib.Omega.{arith}
use lib.ListN.{length, take, drop, length-append, length-drop, take-append-drop}
use lib.Seq.{length-take-le, drop_at, drop-drop}
use Rattle.block.specs.Block.{blocks, block_of}
use Rattle.block.proofs.Blocks.{block_front, block_after}
use Rattle.chain.specs.declared.Chain.{Chain}
use Rattle.chain.specs.Walk.{Step, walk}
use Rattle.chain.specs.Stream.{State, settled, after, add}
use Rattle.chain.proofs.Walk.{walk_add, walk_blocks}

-- no more than a block: nothing is settled
pub add_room : (d : ℕ) (f : Step) (s : State) (p : List ℕ) → length s.held + length p ≤ 16
    → add d f s p ≡ record { done = s.done; chain = s.chain; held = s.held ++ p }
unfolding add walk settled blocks
add_room d f s p h =
    let n : length (s.held ++ p) ≡ length s.held + length p = length-append s.held p in
    let e₀ : settled (length (s.held ++ p)) ≡ 0 = omega arith in
    let e₁ : s.done + settled (length (s.held ++ p)) ≡ s.done = rw (e₀, add-zero) in
    let e₂ : walk d f (after s.done (s.held ++ p)) (s.done + 1) (settled (length (s.held ++ p))) s.chain
    ≡ s.chain = rw e₀ in
    let e₃ : drop (16 * settled (length (s.held ++ p))) (s.held ++ p) ≡ s.held ++ p = rw e₀ in
    λ i. record { done = e₁ i; chain = e₂ i; held = e₃ i }

-- a block b and q behind it: the blocks after b are q's
module _ (b q : List ℕ) (whole : length b ≡ 16) where
  first_block : block_of (b ++ q) 1 ≡ block_of b 1
  first_block = block_front b q 1 (omega arith) (omega arith)

  later_block : (k i : ℕ) → 1 ≤ i → i ≤ k → 16 * k ≤ length q → block_of (b ++ q) (1 + i) ≡ block_of (take (16 * k) q) i
  later_block k i l m h =
      let n : length (take (16 * k) q) ≡ 16 * k = length-take-le (16 * k) q h in
      sym (block_after (b ++ q) 1 i l) ∙ ap (λ (x : List ℕ). block_of x i) (drop_at b q 16 whole)
      ∙ ap (λ (x : List ℕ). block_of x i) (sym (take-append-drop (16 * k) q))
      ∙ block_front (take (16 * k) q) (drop (16 * k) q) i l (omega arith)

  walk_over : (d : ℕ) (f : Step) (n k : ℕ) (c : Chain) → 16 * k ≤ length q
      → walk d f (after n (b ++ q)) (n + 1) (1 + k) c
      ≡ walk d f (after (n + 1) (take (16 * k) q)) (n + 1 + 1) k (walk d f (after n b) (n + 1) 1 c)
  walk_over d f n k c h =
      let one : walk d f (after n (b ++ q)) (n + 1) 1 c ≡ walk d f (after n b) (n + 1) 1 c =
      walk_blocks d f (after n (b ++ q)) (after n b) (n + 1) 1 c
      (λ j l m. let e : j - n ≡ 1 = omega arith in rw e first_block) in
      let number : (j : ℕ) → n + 1 + 1 ≤ j → j < n + 1 + 1 + k → after n (b ++ q) j ≡ after (n + 1) (take (16 * k) q) j =
      λ j l m.
      let e : j - n ≡ 1 + (j - (n + 1)) = omega arith in
      ap (block_of (b ++ q)) e ∙ later_block k (j - (n + 1)) (omega arith) (omega arith) h in
      walk_add d f (after n (b ++ q)) (n + 1) 1 k c ∙ rw one
      (walk_blocks d f (after n (b ++ q)) (after (n + 1) (take (16 * k) q)) (n + 1 + 1) k (walk d f (after n b) (n + 1) 1 c) number)

-- more than a block: a bytes fill up the held block, k blocks follow that are not the last, and 1 to 16 bytes are left
pub add_over : (d : ℕ) (f : Step) (s : State) (p : List ℕ) (a k : ℕ) → length s.held + a ≡ 16 → a + 16 * k < length p
    → length p ≤ a + 16 * k + 16
    → add d f s p
    ≡ record {
      done = s.done + 1 + k;
      chain =
          walk d f (after (s.done + 1) (take (16 * k) (drop a p))) (s.done + 1 + 1) k
          (walk d f (after s.done (s.held ++ take a p)) (s.done + 1) 1 s.chain);
      held = drop (a + 16 * k) p;
    }
unfolding add settled blocks
add_over d f s p a k h l m =
    let b = s.held ++ take a p in
    let q = drop a p in
    let x : s.held ++ p ≡ b ++ q =
    ap (λ (y : List ℕ). s.held ++ y) (sym (take-append-drop a p)) ∙ sym (append_assoc s.held (take a p) (drop a p)) in
    let whole : length b ≡ 16 = length-append s.held (take a p) ∙ rw (length-take-le a p (omega arith)) h in
    let size : length q ≡ length p - a = length-drop a p in
    let n : length (s.held ++ p) ≡ length s.held + length p = length-append s.held p in
    let k₁ : settled (length (s.held ++ p)) ≡ 1 + k = omega arith in
    let e₁ : s.done + settled (length (s.held ++ p)) ≡ s.done + 1 + k = omega arith in
    let e₂ : walk d f (after s.done (s.held ++ p)) (s.done + 1) (settled (length (s.held ++ p))) s.chain
    ≡ walk d f (after (s.done + 1) (take (16 * k) q)) (s.done + 1 + 1) k (walk d f (after s.done b) (s.done + 1) 1 s.chain) =
    rw (k₁, x) (walk_over b q whole d f s.done k s.chain (omega arith)) in
    let sum : 16 * (1 + k) ≡ 16 + 16 * k = omega arith in
    let e₃ : drop (16 * settled (length (s.held ++ p))) (s.held ++ p) ≡ drop (a + 16 * k) p =
    rw (k₁, x, sum, ← drop-drop (16 * k) 16 (b ++ q), drop_at b q 16 whole, drop-drop (16 * k) a p) in
    λ i. record { done = e₁ i; chain = e₂ i; held = e₃ i }
