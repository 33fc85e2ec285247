-- Laws of Algorithm 2.2: its closing by the length of the last block, its counts, and its tag from the stream's view.
-- Assumes nothing.
use mathlib.Core.Path.{◌≡◌, refl, ap, ap₂, sym, ◌∙◌}
use mathlib.Core.List.{List}
use Prim.Native.Nat.{ℕ, zero, suc, ◌+◌, ◌-◌, ◌*◌, ◌%◌, ◌≤◌, ◌<◌}
use native.Mathlib.Nat.{mod-eq_of_lt}
use native.Mathlib.Omega.{arith}
use lib.ListN.{length}
use borrow.Author.Tests.{eq-eqb, ne_eqb}
use Rattle.block.specs.Bits.{bits}
use Rattle.block.specs.Block.{Block, zeros, ◌⊕◌, cut, padded, blocks, block_of}
use Rattle.block.proofs.Block.{xor_none}
use Rattle.block.proofs.Padding.{bits_length, padded_length}
use Rattle.chain.specs.declared.Chain.{Chain}
use Rattle.chain.specs.Count.{whole_for, four_for}
use Rattle.chain.specs.Walk.{begun, walk}
use Rattle.chain.specs.Stream.{start, add}
use Rattle.chain.proofs.Walk.{walk_steps}
use Rattle.chain.proofs.Count.{closed}
use Rattle.chain.proofs.View.{view_chain, view_held}
use Rattle.pcmac.specs.Functions.{G}
use Rattle.pcmac.specs.Taggen.{Keys, step, step_of, chained, hashed, masked, sealed, taggen}

-- the three kinds of step
module _ (e : Block → Block) (u : ℕ → ℕ → Block) (x : ℕ → Block) (w : ℕ) (s b : Block) where
  pub step_whole : w ≡ 0 → step e u x w s b ≡ e (s ⊕ b)
  unfolding step
  step_whole h = rw (eq-eqb w 0 h)

  pub step_first : w ≡ 1 → step e u x w s b ≡ G (u 1) (s ⊕ b)
  unfolding step
  step_first h = rw (ne_eqb w 0 (λ z. omega arith), eq-eqb w 1 h)

  pub step_later : 2 ≤ w → step e u x w s b ≡ G (u w) (s ⊕ x (w - 1) ⊕ b)
  unfolding step
  step_later h = rw (ne_eqb w 0 (λ z. omega arith), ne_eqb w 1 (λ z. omega arith))

-- a full last block takes mul2(L)
pub masked_full : (k : Keys) (last : List ℕ) (h : Block) → length last ≡ 16 → masked k last h ≡ k.full ⊕ h
unfolding masked
masked_full k last h l =
    let e : length (bits last) % 128 ≡ 0 = let n = bits_length last in omega arith in
    rw (eq-eqb _ _ e)

-- a shorter one takes mul2(mul2(L))
pub masked_short : (k : Keys) (last : List ℕ) (h : Block) → 1 ≤ length last → length last < 16
    → masked k last h ≡ k.short ⊕ h
unfolding masked
masked_short k last h a b =
    let n : length (bits last) ≡ 8 * length last = bits_length last in
    let r : length (bits last) % 128 ≡ length (bits last) = mod-eq_of_lt (omega arith) in
    let e : length (bits last) % 128 ≡ 0 → ⊥ = λ z. omega arith in
    rw (ne_eqb (length (bits last) % 128) 0 e)

-- the counts of Algorithm 2.2, closing included
pub taggen_whole : (k : Keys) (d p : ℕ) (M : List ℕ) → (taggen k d p M).whole ≡ whole_for d (length M) + 1
unfolding taggen sealed chained
taggen_whole k d p M = ap (λ (n : ℕ). n + 1) (closed d (step_of k) M).whole_is

pub taggen_four : (k : Keys) (d p : ℕ) (M : List ℕ) → (taggen k d p M).four ≡ four_for d (length M)
unfolding taggen sealed chained
taggen_four k d p M = (closed d (step_of k) M).four_is

-- Algorithm 2.2 from the stream's view: sealed from the chain of the settled blocks and the bytes held
pub taggen_stream : (k : Keys) (d p : ℕ) (M : List ℕ)
    → taggen k d p M
    ≡ sealed k p (blocks (length M)) (add d (step_of k) start M).chain
    (add d (step_of k) start M).held
unfolding taggen chained
taggen_stream k d p M =
    let f = step_of k in
    ap₂ (λ (c : Chain) (last : List ℕ). sealed k p (blocks (length M)) c last) (sym (view_chain d f M)) (sym (view_held d f M))

-- keys that agree on what the order d uses take the same steps at each place of its cycle
pub record Alike (d : ℕ) (k k' : Keys) : Type 0 where
  pub wholes : (b : Block) → k.whole b ≡ k'.whole b
  pub us : (w j : ℕ) → 1 ≤ w → w ≤ d → 1 ≤ j → j ≤ 3 → k.u w j ≡ k'.u w j
  pub xs : (j : ℕ) → 1 ≤ j → j < d → k.x j ≡ k'.x j
  pub fulls : k.full ≡ k'.full
  pub shorts : k.short ≡ k'.short

four_alike : (u v : ℕ → Block) (b : Block) → ((j : ℕ) → 1 ≤ j → j ≤ 3 → u j ≡ v j) → G u b ≡ G v b
four_alike u v b e =
    rw (e 1 (omega arith) (omega arith), e 2 (omega arith) (omega arith), e 3 (omega arith) (omega arith))

module _ (d : ℕ) (k k' : Keys) (a : Alike d k k') where
  pub step_alike : (w : ℕ) (s b : Block) → w ≤ d → step_of k w s b ≡ step_of k' w s b
  step_alike zero s b h =
      step_whole k.whole k.u k.x 0 s b refl ∙ a.wholes (s ⊕ b)
      ∙ sym (step_whole k'.whole k'.u k'.x 0 s b refl)
  step_alike (suc zero) s b h =
      step_first k.whole k.u k.x 1 s b refl
      ∙ four_alike (k.u 1) (k'.u 1) (s ⊕ b) (λ j l m. a.us 1 j (omega arith) h l m)
      ∙ sym (step_first k'.whole k'.u k'.x 1 s b refl)
  step_alike (suc (suc v)) s b h =
      let w = suc (suc v) in
      step_later k.whole k.u k.x w s b (omega arith)
      ∙ rw (a.xs (w - 1) (omega arith) (omega arith))
      (four_alike (k.u w) (k'.u w) (s ⊕ k'.x (w - 1) ⊕ b) (λ j l m. a.us w j (omega arith) h l m))
      ∙ sym (step_later k'.whole k'.u k'.x w s b (omega arith))

  chained_alike : (M : List ℕ) → chained k d M ≡ chained k' d M
  unfolding chained
  chained_alike M = walk_steps d (step_of k) (step_of k') (block_of M) 1 (blocks (length M) - 1) begun step_alike

  sealed_alike : (p m : ℕ) (c : Chain) (last : List ℕ) → sealed k p m c last ≡ sealed k' p m c last
  unfolding sealed masked
  sealed_alike p m c last =
      let h = hashed m c.value last in
      let e : masked k last h ≡ masked k' last h = rw (a.fulls, a.shorts) in
      ap (λ (t : List ℕ). record { tag = t; whole = c.whole + 1; four = c.four })
      (ap (cut p) (a.wholes (masked k last h) ∙ ap k'.whole e))

  -- and so give the same tag, with the same counts
  pub taggen_alike : (p : ℕ) (M : List ℕ) → taggen k d p M ≡ taggen k' d p M
  unfolding taggen
  taggen_alike p M =
      let m = blocks (length M) in
      ap (λ (c : Chain). sealed k p m c (block_of M m)) (chained_alike M) ∙ sealed_alike p m (chained k' d M) (block_of M m)

-- the last block is added to the chain value, which is zeros where there is one block
pub hashed_sum : (m : ℕ) (v : Block) (last : List ℕ) → length last ≤ 16 → (m ≡ 1 → v ≡ zeros)
    → hashed m v last ≡ v ⊕ padded last
unfolding hashed
hashed_sum zero v last h z = refl
hashed_sum (suc zero) v last h z = rw (z refl) (sym (xor_none (padded last) (padded_length last h)))
hashed_sum (suc (suc m)) v last h z = rw (ne_eqb (suc (suc m)) 1 (λ e. omega arith))

-- one block or more: the last block is added to the chain value, which is zeros before the first
pub hashed_chain : (k : Keys) (d : ℕ) (M last : List ℕ) → length last ≤ 16
    → hashed (blocks (length M)) (chained k d M).value last ≡ (chained k d M).value ⊕ padded last
unfolding chained walk
hashed_chain k d M last h = hashed_sum (blocks (length M)) (chained k d M).value last h (λ e. rw e)
