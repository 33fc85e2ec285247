-- Lists whose entries are bytes.
-- Assumes nothing.
use mathlib.Core.Logic.{⊎_elim}
use mathlib.Core.List.{List}
use Prim.Native.Nat.{ℕ, ◌≤◌, ◌<◌}
use native.Mathlib.Omega.{arith}
use lib.ListN.{length, get_or, take, length-take, get_or-eq_default}
use lib.Seq.{get_or-take}
use mir.Syntax.{w8}
use mir.Val.{Fits}
use Rattle.laws.proofs.Cases.{below_or_not}

-- each entry of the list is a byte
abbrev pub Bytes : List ℕ → Type 0
Bytes p = (j : ℕ) → Fits w8 (get_or p j 0)

-- where each entry of a list is below a number, so is each of its front
pub take_below : (n b : ℕ) (p : List ℕ) → 0 < b → ((j : ℕ) → get_or p j 0 < b) → (j : ℕ) → get_or (take n p) j 0 < b
take_below n b p some h j = ⊎_elim front behind (below_or_not j n)
  where
    front : j < n → get_or (take n p) j 0 < b
    front l = rw (get_or-take n p j 0 l) (h j)

    behind : n ≤ j → get_or (take n p) j 0 < b
    behind l =
        let k : length (take n p) ≤ j = simp length-take (omega arith) in
        omega (arith, get_or-eq_default (take n p) 0 k)

-- so the front of bytes is bytes
pub bytes_take : (n : ℕ) (p : List ℕ) → Bytes p → Bytes (take n p)
bytes_take n p b j = record { fits = take_below n 256 p (omega arith) (λ i. (b i).fits) j }
