-- Wrong outcomes that the promises do not permit.
-- Assumes nothing.
use Rattle.std.proofs.Common.{◌≡◌, refl, sym, ◌∙◌, Bool, true, false, [], ◌∷◌, ℕ, ◌+◌, ◌≤◌, ◌<◌, arith, le-leb}
use Rattle.laws.specs.Fault.{unless}
use Rattle.laws.proofs.Fault.{fault_found, fault_pass, fault_last}
use Rattle.chain.specs.Count.{whole_for}
use Rattle.pcmac.specs.Limits.{message_limit}
use Rattle.judge.specs.declared.Stream.{Stream}
use Rattle.judge.specs.Fault.{empty_number}
use Rattle.judge.specs.Promise.{StreamFaultPromise, LengthFaultPromise, EmptyFaultPromise, FirstPromise}
use Rattle.judge.proofs.Faultless.{stream_formed, length_fits, fits_length}
use Rattle.judge.proofs.Total.{total}

-- a stream that is taken
module _ (d : ℕ) (s : Stream) (r : ℕ) (e : StreamFaultPromise d s r) (z : r ≡ 0) where
  -- although its whole-cipher steps are not those of its total
  pub other_wholes_taken : (s.whole ≡ whole_for d s.total → ⊥) → ⊥
  other_wholes_taken h = h (stream_formed d s (sym e ∙ z)).most.wholes

  -- although it holds nothing of a message that has begun, as where a full block is not held
  pub nothing_held_taken : 1 ≤ s.total → s.count ≡ 0 → ⊥
  nothing_held_taken h n = omega (arith, (stream_formed d s (sym e ∙ z)).most.count, (total s.total).some h)

-- just the limit, or less, that is refused
pub limit_refused : (total n r : ℕ) → total + n ≤ message_limit → LengthFaultPromise total n r → (r ≡ 0 → ⊥) → ⊥
limit_refused total n r h e w = w (e ∙ sym (fits_length (total + n) h))

-- more than the limit that is taken
pub limit_passed_taken : (total n r : ℕ) → message_limit < total + n → LengthFaultPromise total n r → r ≡ 0 → ⊥
limit_passed_taken total n r h e z = omega (arith, length_fits (total + n) (sym e ∙ z))

-- no bytes that are taken where the message may not be empty
pub no_bytes_taken : (r : ℕ) → EmptyFaultPromise false 0 r → r ≡ 0 → ⊥
unfolding empty_number unless
no_bytes_taken r e z = omega arith

-- one byte or more that is refused as if there were none
pub bytes_refused : (mayBeEmpty : Bool) (n r : ℕ) → 1 ≤ n → EmptyFaultPromise mayBeEmpty n r → r ≡ 6 → ⊥
unfolding empty_number unless
bytes_refused true n r h e z = omega arith
bytes_refused false n r h e z = let n : r ≡ 0 = rw (le-leb 1 n h) at e in omega arith

-- the second of two faults before the first
pub second_fault_first : (a b r : ℕ) → (a ≡ 0 → ⊥) → (a ≡ b → ⊥) → FirstPromise a b r → r ≡ b → ⊥
second_fault_first a b r h w e z = w (fault_found (b ∷ []) refl h ∙ sym e ∙ z)

-- the second not looked at
pub first_fault_alone : (b r : ℕ) → (b ≡ 0 → ⊥) → FirstPromise 0 b r → r ≡ 0 → ⊥
first_fault_alone b r h e z = h (fault_pass (b ∷ []) refl refl (fault_last refl) ∙ sym e ∙ z)
