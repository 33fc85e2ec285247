-- Laws of the walk: it depends on the blocks that it takes alone; j blocks and then k are j + k; the last block comes last.
-- Assumes nothing.
use mathlib.Core.Path.{◌≡◌, refl, ap}
use Prim.Native.Nat.{ℕ, zero, suc, ◌+◌, ◌-◌, ◌%◌, ◌≤◌, ◌<◌}
use native.Mathlib.Nat.{add-zero, zero-add, suc-add, mod-lt}
use native.Mathlib.Omega.{arith}
use Rattle.block.specs.Block.{Block}
use Rattle.chain.specs.declared.Chain.{Chain}
use Rattle.chain.specs.Walk.{Step, stepped, place, walk}

-- j blocks, and then k
pub walk_add : (d : ℕ) (f : Step) (M : ℕ → Block) (i j k : ℕ) (c : Chain)
    → walk d f M i (j + k) c ≡ walk d f M (i + j) k (walk d f M i j c)
unfolding walk
walk_add d f M i zero k c = rw (zero-add, add-zero)
walk_add d f M i (suc j) k c =
    let e : i + suc j ≡ i + 1 + j = omega arith in
    rw (suc-add, e) (walk_add d f M (i + 1) j k (stepped f (place d i) (M i) c))

-- n blocks, and then one
pub walk_more : (d : ℕ) (f : Step) (M : ℕ → Block) (i n : ℕ) (c : Chain)
    → walk d f M i (n + 1) c ≡ stepped f (place d (i + n)) (M (i + n)) (walk d f M i n c)
unfolding walk
walk_more d f M i n c = walk_add d f M i n 1 c

-- blocks that are the same one by one are walked alike
pub walk_blocks : (d : ℕ) (f : Step) (M N : ℕ → Block) (i n : ℕ) (c : Chain) → ((j : ℕ) → i ≤ j → j < i + n → M j ≡ N j)
    → walk d f M i n c ≡ walk d f N i n c
unfolding walk
walk_blocks d f M N i zero c h = refl
walk_blocks d f M N i (suc n) c h =
    rw (h i (omega arith) (omega arith))
    (walk_blocks d f M N (i + 1) n (stepped f (place d i) (N i) c) (λ j a b. h j (omega arith) (omega arith)))

-- steps that are the same at each place of the cycle walk alike
stepped_same : (f g : Step) (w : ℕ) (b : Block) (c : Chain) → f w c.value b ≡ g w c.value b → stepped f w b c ≡ stepped g w b c
unfolding stepped
stepped_same f g zero b c e = ap (λ (v : Block). record { value = v; whole = c.whole + 1; four = c.four }) e
stepped_same f g (suc w) b c e = ap (λ (v : Block). record { value = v; whole = c.whole; four = c.four + 1 }) e

pub walk_steps : (d : ℕ) (f g : Step) (M : ℕ → Block) (i n : ℕ) (c : Chain)
    → ((w : ℕ) (s b : Block) → w ≤ d → f w s b ≡ g w s b) → walk d f M i n c ≡ walk d g M i n c
unfolding walk
walk_steps d f g M i zero c h = refl
walk_steps d f g M i (suc n) c h =
    let l : place d i < d + 1 = mod-lt _ (omega arith) in
    rw (stepped_same f g (place d i) (M i) c (h (place d i) c.value (M i) (omega arith)))
    (walk_steps d f g M (i + 1) n (stepped g (place d i) (M i) c) h)

-- a step by its two kinds, from the chain value v after it
pub stepped_first : (f : Step) (w : ℕ) (b : Block) (c : Chain) (v : Block) → w ≡ 0 → v ≡ f w c.value b
    → record { value = v; whole = c.whole + 1; four = c.four } ≡ stepped f w b c
unfolding stepped
stepped_first f zero b c v e q = ap (λ (x : Block). record { value = x; whole = c.whole + 1; four = c.four }) q
stepped_first f (suc w) b c v e q = absurd (omega arith)

pub stepped_later : (f : Step) (w : ℕ) (b : Block) (c : Chain) (v : Block) → (w ≡ 0 → ⊥) → v ≡ f w c.value b
    → record { value = v; whole = c.whole; four = c.four + 1 } ≡ stepped f w b c
unfolding stepped
stepped_later f zero b c v e q = absurd (e refl)
stepped_later f (suc w) b c v e q = ap (λ (x : Block). record { value = x; whole = c.whole; four = c.four + 1 }) q

-- block n + 1 stands at place n mod (d + 1)
pub place_after : (d n : ℕ) → place d (n + 1) ≡ n % (d + 1)
place_after d n = let e : n + 1 - 1 ≡ n = omega arith in ap (λ (x : ℕ). x % (d + 1)) e
