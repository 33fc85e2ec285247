-- What a total tells: the blocks settled, the bytes held, and the counts by closed formulas.
-- Assumes nothing.
use Rattle.std.proofs.Common.{◌≡◌, refl, ap, ◌∙◌, ⊎_elim, ℕ, zero, suc, ◌<◌, ◌+◌, ◌-◌, ◌*◌, ◌/◌, ◌%◌, ◌≤◌, div-add-mod', mod-lt, add-mul}
use Rattle.std.proofs.Common.{arith, eq-eqb, ne_eqb}
use Rattle.std.proofs.Math.Nat.{add-mul-div_right, div-eq_of_lt}
use Rattle.std.specs.Int.{div_ceil}
use Rattle.laws.specs.Up.{up}
use Rattle.laws.proofs.Cases.{none_or_some}
use Rattle.laws.proofs.Up.{up_is, up_most}
use Rattle.block.specs.Block.{blocks}
use Rattle.chain.specs.Count.{whole_for}
use Rattle.chain.specs.Stream.{settled}
use Rattle.judge.specs.Stream.{held_for}

pub held_none : (n : ℕ) → n ≡ 0 → 0 ≡ held_for n
unfolding held_for
held_none n h = rw (eq-eqb n 0 h)

pub held_some : (n : ℕ) → (n ≡ 0 → ⊥) → (n - 1) % 16 + 1 ≡ held_for n
unfolding held_for
held_some n h = rw (ne_eqb n 0 h)

-- the blocks settled of a total
pub settled_is : (n : ℕ) → (n - 1) / 16 ≡ settled n
unfolding settled blocks
settled_is n = omega arith

-- all bytes stand in the blocks settled or are held, at most a block of them, and at least one where there is any
pub record Total (n : ℕ) : Type 0 where
  pub sum : 16 * settled n + held_for n ≡ n
  pub held_most : held_for n ≤ 16
  pub some : 1 ≤ n → 1 ≤ held_for n

pub total : (n : ℕ) → Total n
total n = ⊎_elim none some (none_or_some n)
  where
    none : n ≡ 0 → Total n
    none z =
        let h = held_none n z in
        record { sum = omega (arith, settled_is n, h); held_most = omega (arith, h); some = λ l. omega (arith, h) }

    some : (n ≡ 0 → ⊥) → Total n
    some z =
        let h = held_some n z in
        let p : 1 ≤ n = omega arith in
        record { sum = omega (arith, settled_is n, h); held_most = omega (arith, h); some = λ l. omega (arith, h) }

-- a quotient rounded up by its remainder is one rounded up before it is divided
ceil_up : (d k : ℕ) → div_ceil k (d + 1) ≡ up k (d + 1)
ceil_up d k = by (k / (d + 1)) (k % (d + 1)) refl refl
  where
    -- d + 1 goes in q times and leaves r
    times : (q r : ℕ) → r < d + 1 → (r + q * (d + 1)) / (d + 1) ≡ q
    times q r h = let p : 0 < d + 1 = omega arith in add-mul-div_right r q p ∙ rw (div-eq_of_lt h) (omega arith)

    by : (q r : ℕ) → k / (d + 1) ≡ q → k % (d + 1) ≡ r → div_ceil k (d + 1) ≡ up k (d + 1)
    by q zero f g =
        let e : k + d ≡ d + q * (d + 1) = omega (arith, div-add-mod' k (d + 1), ap (λ (x : ℕ). x * (d + 1)) f) in
        let t = times q d (omega arith) in
        rw (f, g, up_is d k, e, t) (omega arith)
    by q (suc r) f g =
        let p : 0 < d + 1 = omega arith in
        let l = mod-lt k p in
        let m : (q + 1) * (d + 1) ≡ q * (d + 1) + (d + 1) = rw add-mul (omega arith) in
        let e : k + d ≡ r + (q + 1) * (d + 1) = omega (arith, div-add-mod' k (d + 1), ap (λ (x : ℕ). x * (d + 1)) f) in
        let t = times (q + 1) r (omega arith) in
        rw (f, g, up_is d k, e, t) (omega arith)

-- the whole-cipher steps, from the blocks settled, rounded up by the remainder: no more than these
pub wholes_are : (d n k r : ℕ) → k ≡ settled n → r ≡ div_ceil k (d + 1) → (r ≡ whole_for d n) × (r ≤ settled n)
unfolding settled
wholes_are d n k r e f =
    let q : r ≡ up k (d + 1) = f ∙ ceil_up d k in
    let w : r ≡ whole_for d n = q ∙ ap (λ (m : ℕ). up m (d + 1)) e in
    (w, rw w (up_most d (blocks n - 1)))
