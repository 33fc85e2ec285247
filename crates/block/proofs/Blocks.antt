-- A message and its blocks: which bytes are block i, how long it is, and that the blocks joined are the message.
-- Assumes nothing.
use mathlib.Core.Path.{◌≡◌, refl, ◌∙◌}
use mathlib.Core.List.{List, ◌++◌}
use Prim.Native.Nat.{ℕ, zero, suc, ◌+◌, ◌-◌, ◌*◌, ◌≤◌}
use native.Mathlib.Omega.{arith}
use lib.ListN.{length, take, drop, length-drop}
use lib.Seq.{length-take-le, take_all, drop-drop, take-append-le, drop-append-le, take-add}
use Rattle.laws.specs.Agree.{from, table}
use Rattle.laws.specs.Joined.{joined}
use Rattle.laws.specs.Up.{up}
use Rattle.block.specs.Block.{blocks, block_of}

-- a block that stands in x is the same with y behind it
pub block_front : (x y : List ℕ) (i : ℕ) → 1 ≤ i → 16 * i ≤ length x → block_of (x ++ y) i ≡ block_of x i
unfolding block_of
block_front x y i l h =
    let a : 16 * (i - 1) ≤ length x = omega arith in
    let b : 16 ≤ length (drop (16 * (i - 1)) x) = simp length-drop (omega arith) in
    rw (drop-append-le (16 * (i - 1)) x y a, take-append-le 16 (drop (16 * (i - 1)) x) y b)

-- block i of what is left behind k blocks is block k + i
pub block_after : (x : List ℕ) (k i : ℕ) → 1 ≤ i → block_of (drop (16 * k) x) i ≡ block_of x (k + i)
unfolding block_of
block_after x k i l =
    let e : 16 * k + 16 * (i - 1) ≡ 16 * (k + i - 1) = omega arith in
    rw (drop-drop (16 * (i - 1)) (16 * k) x, e)

-- a whole block has sixteen bytes
pub block_whole : (x : List ℕ) (i : ℕ) → 1 ≤ i → 16 * i ≤ length x → length (block_of x i) ≡ 16
unfolding block_of
block_whole x i l h = length-take-le 16 (drop (16 * (i - 1)) x) (simp length-drop (omega arith))

-- the last block is what is left behind the others
pub block_last : (x : List ℕ) → block_of x (blocks (length x)) ≡ drop (16 * (blocks (length x) - 1)) x
unfolding block_of blocks
block_last x = take_all 16 (drop (16 * (up (length x) 16 - 1)) x) (simp length-drop (omega arith))

-- and has 1 to 16 bytes, of a message of at least one
pub last_some : (x : List ℕ) → 1 ≤ length x → 1 ≤ length (block_of x (blocks (length x)))
unfolding blocks
last_some x h = rw block_last (simp length-drop (omega arith))

pub last_most : (x : List ℕ) → length (block_of x (blocks (length x))) ≤ 16
unfolding blocks
last_most x = rw block_last (simp length-drop (omega arith))

joined_from : (x : List ℕ) (i n : ℕ) → joined (from i n (λ j. block_of x (j + 1))) ≡ take (16 * n) (drop (16 * i) x)
unfolding joined block_of
joined_from x i zero = refl
joined_from x i (suc n) =
    let e : 16 * (i + 1 - 1) ≡ 16 * i = omega arith in
    let l : 16 * suc n ≡ 16 + 16 * n = omega arith in
    let b : 16 * i + 16 ≡ 16 * suc i = omega arith in
    rw (e, joined_from x (suc i) n, l, take-add 16 (16 * n) (drop (16 * i) x), drop-drop 16 (16 * i) x, b)

-- M = M_1 ‖ M_2 ‖ .. ‖ M_m
pub partition : (x : List ℕ) → joined (table (λ j. block_of x (j + 1)) (blocks (length x))) ≡ x
unfolding blocks
partition x = joined_from x 0 (blocks (length x)) ∙ take_all (16 * blocks (length x)) x (omega arith)
