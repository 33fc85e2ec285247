-- The key call's number by cases, and what number 0 tells; what is meant by an order and a tag length, 0 among them.
-- Assumes nothing.
use Rattle.std.proofs.Common.{◌≡◌, refl, ap, ◌∙◌, Err, Bool, true, false, List, ℕ, zero, suc, ◌≤◌, ◌<◌, arith, eqb, ltb, length, lt-ltb}
use Rattle.std.proofs.Common.{le-ltb, ltb-false, eq-eqb, ne_eqb, eqb-true}
use Rattle.numbers.specs.declared.Refusal.{Refusal}
use Rattle.numbers.specs.Told.{number}
use Rattle.numbers.proofs.Number.{not_done}
use Rattle.keys.specs.Told.{told_keys}
use Rattle.laws.specs.Agree.{both}
use Rattle.laws.specs.Pick.{pick}
use Rattle.laws.proofs.UpTo.{Within}
use Rattle.pcmac.specs.Limits.{highest_order, default_order, longest_tag, default_tag, resolved, resolved_order, resolved_tag}
use Rattle.keys.specs.Answer.{key_number, done_keys, refused_keys, key_answer}

module _ (order bits k l : ℕ) where
  pub number_order : 5 < order → key_number order bits k l ≡ 1
  unfolding key_number
  number_order a = rw (lt-ltb 5 order a)

  pub number_tag : order ≤ 5 → 128 < bits → key_number order bits k l ≡ 2
  unfolding key_number
  number_tag a b = rw (le-ltb 5 order a, lt-ltb 128 bits b)

  pub number_k : order ≤ 5 → bits ≤ 128 → (k ≡ 16 → ⊥) → key_number order bits k l ≡ 3
  unfolding key_number
  number_k a b c = rw (le-ltb 5 order a, le-ltb 128 bits b, ne_eqb k 16 c)

  pub number_l : order ≤ 5 → bits ≤ 128 → k ≡ 16 → (l ≡ 16 → ⊥) → key_number order bits k l ≡ 3
  unfolding key_number
  number_l a b c d = rw (le-ltb 5 order a, le-ltb 128 bits b, eq-eqb k 16 c, ne_eqb l 16 d)

  pub number_none : order ≤ 5 → bits ≤ 128 → k ≡ 16 → l ≡ 16 → key_number order bits k l ≡ 0
  unfolding key_number
  number_none a b c d = rw (le-ltb 5 order a, le-ltb 128 bits b, eq-eqb k 16 c, eq-eqb l 16 d)

-- what the key call was handed has no fault
pub record Faultless (order bits k l : ℕ) : Type 0 where
  pub order_fits : order ≤ 5
  pub tag_fits : bits ≤ 128
  pub k_size : k ≡ 16
  pub l_size : l ≡ 16

-- number 0 says so
pub number_faultless : (order bits k l : ℕ) → key_number order bits k l ≡ 0 → Faultless order bits k l
unfolding key_number
number_faultless order bits k l e = by (ltb 5 order) (ltb 128 bits) (eqb k 16) (eqb l 16) refl refl refl refl e
  where
    by : (a b c d : Bool) → ltb 5 order ≡ a → ltb 128 bits ≡ b → eqb k 16 ≡ c → eqb l 16 ≡ d
        → pick {A = ℕ} a 1 (pick b 2 (pick (both c d) 0 3)) ≡ 0 → Faultless order bits k l
    by true b c d ea eb ec ed e = absurd (omega arith)
    by false true c d ea eb ec ed e = absurd (omega arith)
    by false false false d ea eb ec ed e = absurd (omega arith)
    by false false true false ea eb ec ed e = absurd (omega arith)
    by false false true true ea eb ec ed e = record {
      order_fits = ltb-false 5 order ea;
      tag_fits = ltb-false 128 bits eb;
      k_size = eqb-true k 16 ec;
      l_size = eqb-true l 16 ed;
    }

-- what is meant is within the bounds of what is given
pub resolved_within : (otherwise most n : ℕ) → Within most otherwise → n ≤ most → Within most (resolved otherwise n)
unfolding resolved
resolved_within otherwise most zero w h = w
resolved_within otherwise most (suc n) w h = rw (ne_eqb (suc n) 0 (λ z. omega arith)) (record { low = omega arith; high = h })

-- so is what was answered for it, whichever number stands for none
pub meant_within : {otherwise most n r : ℕ} → r ≡ resolved otherwise n → Within most otherwise → n ≤ most → Within most r
meant_within {otherwise} {most} {n} e w h = rw e (resolved_within otherwise most n w h)

-- the order that is meant is one that there is
pub order_within : (order : ℕ) → order ≤ highest_order → Within highest_order (resolved_order order)
order_within order h = resolved_within default_order highest_order order (record { low = omega arith; high = omega arith }) h

-- and the tag length
pub tag_within : (bits : ℕ) → bits ≤ longest_tag → Within longest_tag (resolved_tag bits)
tag_within bits h = resolved_within default_tag longest_tag bits (record { low = omega arith; high = omega arith }) h

-- WHERE NO ORDER IS SAID, the answer is that for the order which is then meant, refused or not
pub order_unsaid : (bits : ℕ) (K L : List ℕ) → key_answer 0 bits K L ≡ key_answer default_order bits K L
unfolding key_answer key_number resolved
order_unsaid bits K L = refl

module _ (order bits : ℕ) (K L : List ℕ) where
  pub answer_refused : (key_number order bits (length K) (length L) ≡ 0 → ⊥)
      → refused_keys (key_number order bits (length K) (length L)) ≡ key_answer order bits K L
  unfolding key_answer
  answer_refused h = rw (ne_eqb (key_number order bits (length K) (length L)) 0 h)

  pub answer_done : {d p : ℕ} {k l : List ℕ} → key_number order bits (length K) (length L) ≡ 0 → d ≡ resolved_order order
      → p ≡ resolved_tag bits → k ≡ K → l ≡ L → done_keys d p k l ≡ key_answer order bits K L
  unfolding key_answer
  answer_done h ed ep ek el = rw (eq-eqb (key_number order bits (length K) (length L)) 0 h, ed, ep, ek, el)

  -- a refusal is told by the number of the fault that was found
  pub answer_err : (why : Refusal) → number {A = Unit {0}} (Err why) ≡ key_number order bits (length K) (length L)
      → told_keys (Err why) ≡ key_answer order bits K L
  unfolding number told_keys refused_keys
  answer_err why e = ap refused_keys e ∙ answer_refused (λ z. not_done why (e ∙ z))
