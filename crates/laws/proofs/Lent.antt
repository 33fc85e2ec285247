-- Parts of a list as a slice lends them.
-- Assumes nothing.
use mathlib.Core.Path.{◌≡◌, ap, ◌∙◌}
use mathlib.Core.List.{List, ◌++◌, append-nil}
use Prim.Native.Nat.{ℕ, ◌-◌, ◌≤◌}
use native.Mathlib.Omega.{arith}
use lib.ListN.{length, take, drop, length-drop, drop_of_length-le}
use lib.Seq.{take_all}

-- from a place to the end
pub lent_rest : (l : List ℕ) (at : ℕ) → take (length l - at) (drop at l) ≡ drop at l
lent_rest l at = take_all (length l - at) (drop at l) (simp length-drop (omega arith))

-- and when it is back, with other elements: nothing stands behind them
pub lent_back : (l x : List ℕ) (at : ℕ) → take at l ++ (x ++ drop (length l - at) (drop at l)) ≡ take at l ++ x
lent_back l x at =
    let k : length (drop at l) ≤ length l - at = simp length-drop (omega arith) in
    let none = drop_of_length-le (drop at l) k in
    ap (λ (y : List ℕ). take at l ++ (x ++ y)) none ∙ ap (λ (y : List ℕ). take at l ++ y) (append-nil x)
