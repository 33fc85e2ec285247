-- Cutting a message into parts changes nothing: for any order, any step and any state.
-- Assumes nothing.
use mathlib.Core.Path.{◌≡◌, ap, sym, ◌∙◌}
use mathlib.Core.List.{List, [], ◌∷◌, ◌++◌, append_assoc, append-nil}
use Prim.Native.Nat.{ℕ, ◌+◌, ◌-◌, ◌*◌, ◌≤◌}
use native.Mathlib.Nat.{mul-add, add-zero}
use native.Mathlib.Omega.{arith}
use lib.ListN.{length, drop, length-append, length-drop}
use lib.Seq.{drop-append-le, drop-drop}
use Rattle.laws.specs.Joined.{joined}
use Rattle.block.specs.Block.{blocks, block_of}
use Rattle.block.proofs.Blocks.{block_front, block_after}
use Rattle.chain.specs.declared.Chain.{Chain}
use Rattle.chain.specs.Walk.{Step, walk}
use Rattle.chain.specs.Stream.{State, settled, after, add, add_all}
use Rattle.chain.proofs.Walk.{walk_add, walk_blocks}

-- settled blocks stand whole in the message
pub settled_fits : (x : List ℕ) → 16 * settled (length x) ≤ length x
unfolding settled blocks
settled_fits x = omega arith

-- what x settles, and then what is left of it with q behind, are what both settle
settled_add : (x q : List ℕ)
    → settled (length (x ++ q)) ≡ settled (length x) + settled (length (drop (16 * settled (length x)) x ++ q))
unfolding settled blocks
settled_add x q = simp (length-append, length-drop) (omega arith)

-- block i of what is left of x with q behind, by its number
left_block : (x q : List ℕ) (k i : ℕ) → 16 * k ≤ length x → 1 ≤ i
    → block_of (drop (16 * k) x ++ q) i ≡ block_of (x ++ q) (k + i)
left_block x q k i h l = ap (λ (y : List ℕ). block_of y i) (sym (drop-append-le (16 * k) x q h)) ∙ block_after (x ++ q) k i l

chain_cut : (d : ℕ) (f : Step) (n : ℕ) (c : Chain) (x q : List ℕ) (k k' : ℕ) → 16 * k ≤ length x
    → walk d f (after (n + k) (drop (16 * k) x ++ q)) (n + k + 1) k' (walk d f (after n x) (n + 1) k c)
    ≡ walk d f (after n (x ++ q)) (n + 1) (k + k') c
chain_cut d f n c x q k k' h =
    let first : walk d f (after n x) (n + 1) k c ≡ walk d f (after n (x ++ q)) (n + 1) k c =
    walk_blocks d f (after n x) (after n (x ++ q)) (n + 1) k c (λ j a b. sym (block_front x q (j - n) (omega arith) (omega arith))) in
    let number : (j : ℕ) → n + k + 1 ≤ j → after (n + k) (drop (16 * k) x ++ q) j ≡ after n (x ++ q) j =
    λ j a.
    let e : k + (j - (n + k)) ≡ j - n = omega arith in
    left_block x q k (j - (n + k)) h (omega arith) ∙ ap (block_of (x ++ q)) e in
    let e : n + k + 1 ≡ n + 1 + k = omega arith in
    rw first
    (walk_blocks d f (after (n + k) (drop (16 * k) x ++ q)) (after n (x ++ q)) (n + k + 1) k' _ (λ j a b. number j a)
    ∙ rw e (sym (walk_add d f (after n (x ++ q)) (n + 1) k k' c)))

held_cut : (x q : List ℕ)
    → drop (16 * settled (length (drop (16 * settled (length x)) x ++ q))) (drop (16 * settled (length x)) x ++ q)
    ≡ drop (16 * settled (length (x ++ q))) (x ++ q)
held_cut x q =
    rw (
      settled_add x q,
      mul-add 16 (settled (length x)),
      ← drop-drop (16 * settled (length (drop (16 * settled (length x)) x ++ q))) (16 * settled (length x)) (x ++ q),
      drop-append-le (16 * settled (length x)) x q (settled_fits x),
    )

-- THE CUTTING LAW: a part and then another are the two joined
pub cut : (d : ℕ) (f : Step) (s : State) (p q : List ℕ) → add d f (add d f s p) q ≡ add d f s (p ++ q)
unfolding add
cut d f s p q =
    let x = s.held ++ p in
    let k = settled (length x) in
    let y = drop (16 * k) x ++ q in
    let n : settled (length (x ++ q)) ≡ k + settled (length y) = settled_add x q in
    let e₁ : s.done + k + settled (length y) ≡ s.done + settled (length (x ++ q)) = omega arith in
    let e₂ : walk d f (after (s.done + k) y) (s.done + k + 1) (settled (length y))
    (walk d f (after s.done x) (s.done + 1) k s.chain)
    ≡ walk d f (after s.done (x ++ q)) (s.done + 1) (settled (length (x ++ q))) s.chain =
    chain_cut d f s.done s.chain x q k (settled (length y)) (settled_fits x) ∙ rw n in
    let e₃ = held_cut x q in
    rw (← append_assoc) (λ i. record { done = e₁ i; chain = e₂ i; held = e₃ i })

-- a state that holds at most one block settles nothing by itself
pub add_none : (d : ℕ) (f : Step) (s : State) → length s.held ≤ 16 → add d f s [] ≡ s
unfolding add walk settled blocks
add_none d f s h =
    let e₀ : settled (length (s.held ++ [])) ≡ 0 = rw append-nil (omega arith) in
    let e₁ : s.done + settled (length (s.held ++ [])) ≡ s.done = rw (e₀, add-zero) in
    let e₂ : walk d f (after s.done (s.held ++ [])) (s.done + 1) (settled (length (s.held ++ []))) s.chain
    ≡ s.chain = rw e₀ in
    let e₃ : drop (16 * settled (length (s.held ++ []))) (s.held ++ []) ≡ s.held = rw e₀ (append-nil s.held) in
    λ i. record { done = e₁ i; chain = e₂ i; held = e₃ i }

-- after a part at most one block is held
pub held_most : (d : ℕ) (f : Step) (s : State) (p : List ℕ) → length (add d f s p).held ≤ 16
unfolding add settled blocks
held_most d f s p = simp length-drop (omega arith)

-- any list of parts, empty ones among them, is their message at once
pub add_joined : (d : ℕ) (f : Step) (s : State) (ps : List (List ℕ)) → length s.held ≤ 16
    → add_all d f s ps ≡ add d f s (joined ps)
unfolding add_all joined
add_joined d f s [] h = sym (add_none d f s h)
add_joined d f s (p ∷ ps) h = add_joined d f (add d f s p) ps (held_most d f s p) ∙ cut d f s p (joined ps)
