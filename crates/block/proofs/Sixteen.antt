-- A list as sixteen bytes: cut where it is longer, filled with zeros where it is shorter; a block with a part behind it, byte by byte.
-- Assumes nothing.
use Rattle.std.proofs.Common.{◌≡◌, ap₂, sym, ◌∙◌, List, ◌++◌, ℕ, ◌+◌, ◌-◌, ◌≤◌, ◌<◌, arith, length, get_or, take, drop, replicate}
use Rattle.std.proofs.Common.{length-drop, length-take, get_or-take}
use lib.ListN.{get_or-append}
use Rattle.laws.proofs.Filled.{filled_length, filled_at, filled_long, filled_short, filled_front, filled_all}
use Rattle.block.specs.Block.{sixteen}

-- sixteen bytes they are
pub sixteen_length : (x : List ℕ) → length (sixteen x) ≡ 16
unfolding sixteen
sixteen_length x = filled_length 16 x

-- byte by byte
pub sixteen_at : (x : List ℕ) (j : ℕ) → j < 16 → get_or (sixteen x) j 0 ≡ get_or x j 0
unfolding sixteen
sixteen_at x j h = filled_at 16 x j h

-- a longer list is cut
pub sixteen_long : (x : List ℕ) → 16 ≤ length x → sixteen x ≡ take 16 x
unfolding sixteen
sixteen_long x h = filled_long 16 x h

-- a shorter one is filled
pub sixteen_short : (x : List ℕ) → length x ≤ 16 → sixteen x ≡ x ++ replicate (16 - length x) 0
unfolding sixteen
sixteen_short x h = filled_short 16 x h

-- and stands at the front of what it is filled up to
pub sixteen_front : (x : List ℕ) → length x ≤ 16 → take (length x) (sixteen x) ≡ x
unfolding sixteen
sixteen_front x h = filled_front 16 x h

-- so that of lists of one length it tells one from another
pub sixteen_once : (x y : List ℕ) → length x ≡ length y → length y ≤ 16 → sixteen x ≡ sixteen y → x ≡ y
sixteen_once x y n h e =
    sym (sixteen_front x (omega arith)) ∙ ap₂ (λ (k : ℕ) (z : List ℕ). take k z) n e ∙ sixteen_front y h

-- sixteen bytes that stand there
pub sixteen_whole : (x : List ℕ) (at : ℕ) → at + 16 ≤ length x → sixteen (drop at x) ≡ take 16 (drop at x)
sixteen_whole x at h = sixteen_long (drop at x) (simp length-drop (omega arith))

-- a list of sixteen bytes is as it is
pub sixteen_all : (x : List ℕ) → length x ≡ 16 → sixteen x ≡ x
unfolding sixteen
sixteen_all x h = filled_all 16 x h

-- n bytes of a block with a part behind them: a byte of the block
pub joined_front : (x part : List ℕ) (n i : ℕ) → i < n → i < length x → get_or (take n x ++ part) i 0 ≡ get_or x i 0
joined_front x part n i a b =
    get_or-append (take n x) part 0 i (simp length-take (omega arith)) ∙ get_or-take n x i 0 a
