-- Laws of the quotient rounded up, for a divisor d + 1.
-- Assumes nothing.
use mathlib.Core.Path.{◌≡◌, ◌∙◌}
use Prim.Native.Nat.{ℕ, zero, suc, ◌+◌, ◌-◌, ◌*◌, ◌/◌, ◌%◌, ◌≤◌, ◌<◌}
use native.Mathlib.Nat.{add-mul-div_right, div-add-mod', mod-lt, div-eq_of_lt, div-lt_iff_lt-mul, lt-div-mul-add}
use native.Mathlib.Nat.{add-mul, zero-add}
use native.Mathlib.Omega.{arith}
use Rattle.laws.specs.Up.{up}

-- what a divisor d + 1 adds before it divides
pub up_is : (d n : ℕ) → up n (d + 1) ≡ (n + d) / (d + 1)
up_is d n = let e : d + 1 - 1 ≡ d = omega arith in rw e

-- nothing, divided, is nothing
pub up_none : (d : ℕ) → up 0 (d + 1) ≡ 0
up_none d = up_is d 0 ∙ rw zero-add (div-eq_of_lt (omega arith))

-- 1 where the remainder is 0, and otherwise 0
abbrev pub first : ℕ → ℕ
first zero = 1
first (suc r) = 0

-- the quotient of a sum whose remainder is shown
quotient : (d q r : ℕ) → r < d + 1 → (r + q * (d + 1)) / (d + 1) ≡ q
quotient d q r h = add-mul-div_right r q (omega arith) ∙ rw (div-eq_of_lt h) (omega arith)

up_at : (d q r : ℕ) → r < d + 1 → (r + q * (d + 1) + 1 + d) / (d + 1) ≡ (r + q * (d + 1) + d) / (d + 1) + first r
up_at d q zero h =
    let more : zero + q * (d + 1) + 1 + d ≡ 0 + (q + 1) * (d + 1) = rw add-mul (omega arith) in
    let now : zero + q * (d + 1) + d ≡ d + q * (d + 1) = omega arith in
    rw (more, now, quotient d (q + 1) 0 (omega arith), quotient d q d (omega arith))
up_at d q (suc r) h =
    let more : suc r + q * (d + 1) + 1 + d ≡ suc r + (q + 1) * (d + 1) = rw add-mul (omega arith) in
    let now : suc r + q * (d + 1) + d ≡ r + (q + 1) * (d + 1) = rw add-mul (omega arith) in
    rw (more, now, quotient d (q + 1) (suc r) h, quotient d (q + 1) r (omega arith)) (omega arith)

-- one more raises it exactly where the remainder was 0
pub up_more : (d n : ℕ) → up (n + 1) (d + 1) ≡ up n (d + 1) + first (n % (d + 1))
up_more d n =
    let e : n % (d + 1) + n / (d + 1) * (d + 1) ≡ n = omega (arith, div-add-mod' n (d + 1)) in
    rw (up_is d (n + 1), up_is d n) (rw e at (up_at d (n / (d + 1)) (n % (d + 1)) (mod-lt n (omega arith))))

-- a number rounded up is at most this where the product is large enough
up_below : (d n q : ℕ) → n + d < (q + 1) * (d + 1) → up n (d + 1) ≤ q
up_below d n q h =
    let p : 0 < d + 1 = omega arith in
    let g : (n + d) / (d + 1) < q + 1 = (div-lt_iff_lt-mul p).1 h in
    rw (up_is d n) (omega arith)

up_above : (d n : ℕ) → n + d < (up n (d + 1) + 1) * (d + 1)
up_above d n =
    let g : n + d < (n + d) / (d + 1) * (d + 1) + (d + 1) = lt-div-mul-add (omega arith) in
    rw (up_is d n, add-mul) (omega arith)

-- of a sum, at most the sum of both
pub up_sum : (d i k : ℕ) → up (i + k) (d + 1) ≤ up i (d + 1) + up k (d + 1)
up_sum d i k =
    let a = rw add-mul at (up_above d i) in
    let b = rw add-mul at (up_above d k) in
    up_below d (i + k) (up i (d + 1) + up k (d + 1)) (rw (add-mul, add-mul) (omega arith))

-- of a larger number, no less
pub up_mono : (d k m : ℕ) → k ≤ m → up k (d + 1) ≤ up m (d + 1)
up_mono d k m h = up_below d k (up m (d + 1)) (omega (arith, up_above d m))

first_most : (r : ℕ) → first r ≤ 1
first_most zero = omega arith
first_most (suc r) = omega arith

-- at most the number itself
pub up_most : (d n : ℕ) → up n (d + 1) ≤ n
up_most d zero = rw (up_none d) (omega arith)
up_most d (suc n) =
    let e : up (n + 1) (d + 1) ≡ up n (d + 1) + first (n % (d + 1)) = up_more d n in
    let s : suc n ≡ n + 1 = omega arith in
    rw s (omega (arith, up_most d n, first_most (n % (d + 1))))
