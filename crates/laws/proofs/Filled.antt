-- A list at another length: cut where it is longer, filled with zeros where it is shorter.
-- Assumes nothing.
use mathlib.Core.Path.{◌≡◌, refl, ap, sym, ◌∙◌}
use mathlib.Core.List.{List, [], ◌∷◌, ◌++◌}
use Prim.Native.Nat.{ℕ, zero, suc, ◌-◌, ◌≤◌, ◌<◌}
use native.Mathlib.Omega.{arith}
use lib.ListN.{length, get_or, take, replicate, length-append, length-replicate}
use lib.Seq.{ext_get_or, length-take-le, get_or-take, take_all, take-append_seam}
use Rattle.laws.specs.Filled.{filled}
use Rattle.laws.proofs.Agree.{table_length, table_at}

-- a list with zeros behind it reads as it did
pub zeros_behind : (x : List ℕ) (n j : ℕ) → get_or (x ++ replicate n 0) j 0 ≡ get_or x j 0
zeros_behind [] zero j = refl
zeros_behind [] (suc n) zero = refl
zeros_behind [] (suc n) (suc j) = zeros_behind [] n j
zeros_behind (b ∷ x) n zero = refl
zeros_behind (b ∷ x) n (suc j) = zeros_behind x n j

module _ (n : ℕ) (x : List ℕ) where
  pub filled_length : length (filled n x) ≡ n
  filled_length = table_length (λ j. get_or x j 0) n

  -- entry by entry
  pub filled_at : (j : ℕ) → j < n → get_or (filled n x) j 0 ≡ get_or x j 0
  filled_at j h = table_at (λ i. get_or x i 0) n j h

  -- a list that reads alike, and is as long
  pub filled_by : (y : List ℕ) → length y ≡ n → ((j : ℕ) → j < n → get_or y j 0 ≡ get_or x j 0) → filled n x ≡ y
  filled_by y h e =
      ext_get_or 0 (filled n x) y (filled_length ∙ sym h)
      (λ j b. let b' : j < n = rw filled_length at b in filled_at j b' ∙ sym (e j b'))

  -- a longer list is cut
  pub filled_long : n ≤ length x → filled n x ≡ take n x
  filled_long h = filled_by (take n x) (length-take-le n x h) (λ j b. get_or-take n x j 0 b)

  -- a shorter one is filled
  pub filled_short : length x ≤ n → filled n x ≡ x ++ replicate (n - length x) 0
  filled_short h =
      let z : length (replicate {A = ℕ} (n - length x) 0) ≡ n - length x = length-replicate (n - length x) 0 in
      filled_by (x ++ replicate (n - length x) 0) (length-append x (replicate (n - length x) 0) ∙ omega arith)
      (λ j b. zeros_behind x (n - length x) j)

  -- and stands at the front of what it is filled up to
  pub filled_front : length x ≤ n → take (length x) (filled n x) ≡ x
  filled_front h = ap (take (length x)) (filled_short h) ∙ take-append_seam x (replicate (n - length x) 0)

  -- a list of just so many is as it is
  pub filled_all : length x ≡ n → filled n x ≡ x
  filled_all h = filled_long (omega arith) ∙ take_all n x (omega arith)
