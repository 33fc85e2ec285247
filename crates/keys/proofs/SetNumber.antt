-- A tag length's number and a key set's by cases, and what number 0 tells.
-- Assumes nothing.
use Rattle.std.proofs.Common.{◌≡◌, refl, true, false, [], ◌∷◌, ℕ, arith}
use Rattle.laws.specs.Fault.{unless}
use Rattle.laws.specs.UpTo.{up_to}
use Rattle.laws.proofs.Fault.{unless_holds, unless_fails, unless_none, fault_found, fault_pass, fault_last, none_of_two}
use Rattle.laws.proofs.UpTo.{Within, is_within, up_to_is}
use Rattle.keys.specs.declared.KeySet.{KeySet}
use Rattle.keys.specs.SetNumber.{bits_number, set_number}

-- a tag length
module _ (p : ℕ) where
  pub bits_none : up_to 128 p ≡ true → 0 ≡ bits_number p
  unfolding bits_number
  bits_none e = unless_holds 2 e

  pub bits_bad : up_to 128 p ≡ false → 2 ≡ bits_number p
  unfolding bits_number
  bits_bad e = unless_fails 2 e

  pub bits_within : bits_number p ≡ 0 → Within 128 p
  unfolding bits_number
  bits_within e = is_within 128 p (unless_none 1 (up_to 128 p) e)

module _ (k : KeySet) where
  pub set_order : up_to 5 k.order ≡ false → 1 ≡ set_number k
  unfolding set_number
  set_order e = fault_found (bits_number k.bits ∷ []) (unless_fails 1 e) (λ z. omega arith)

  -- the order is no fault, so it is for the tag length to say
  pub set_tag : up_to 5 k.order ≡ true → {r : ℕ} → r ≡ bits_number k.bits → r ≡ set_number k
  unfolding set_number
  set_tag e f = fault_pass (bits_number k.bits ∷ []) (unless_holds 1 e) refl (fault_last f)

-- the key set is taken by the later calls: its order is 1 to 5 and its tag length 1 to 128
pub record Taken (k : KeySet) : Type 0 where
  pub order : Within 5 k.order
  pub tag : Within 128 k.bits

-- number 0 says so
pub set_taken : (k : KeySet) → set_number k ≡ 0 → Taken k
unfolding set_number
set_taken k e =
    let f = none_of_two (unless (up_to 5 k.order) 1) (bits_number k.bits) e in
    record { order = is_within 5 k.order (unless_none 0 (up_to 5 k.order) f.0); tag = bits_within k.bits f.1 }

-- and is what such a key set gives
pub taken_set : (k : KeySet) → Taken k → 0 ≡ set_number k
taken_set k t =
    set_tag k (up_to_is 5 k.order t.order.low t.order.high)
    (bits_none k.bits (up_to_is 128 k.bits t.tag.low t.tag.high))
