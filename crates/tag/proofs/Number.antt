-- The faults of a tag length and of a tag slice, by cases, and what it tells that there is none.
-- Assumes nothing.
use Rattle.std.proofs.Common.{◌≡◌, refl, sym, [], ◌∷◌, ℕ, eqb, eqb-true, eq-eqb, ne_eqb, Err}
use Rattle.laws.proofs.Fault.{unless_holds, unless_fails, unless_none, fault_found, fault_pass, fault_last, none_of_two}
use Rattle.laws.proofs.UpTo.{Within, up_to_is}
use Rattle.numbers.specs.declared.Refusal.{Refusal}
use Rattle.numbers.specs.Told.{number}
use Rattle.numbers.proofs.Number.{not_done}
use Rattle.keys.specs.SetNumber.{bits_number}
use Rattle.keys.proofs.SetNumber.{bits_none, bits_within}
use Rattle.tag.specs.Fault.{size_number, tag_number}
use Rattle.tag.specs.Tag.{tag_bytes}

module _ (p n : ℕ) where
  -- the slice has just the bytes of a tag
  pub size_fits : size_number p n ≡ 0 → n ≡ tag_bytes p
  unfolding size_number
  size_fits e = eqb-true n (tag_bytes p) (unless_none 2 (eqb n (tag_bytes p)) e)

  pub fits_size : n ≡ tag_bytes p → 0 ≡ size_number p n
  unfolding size_number
  fits_size h = unless_holds 3 (eq-eqb n (tag_bytes p) h)

  -- and of another size gives 3
  pub other_size : (n ≡ tag_bytes p → ⊥) → 3 ≡ size_number p n
  unfolding size_number
  other_size h = unless_fails 3 (ne_eqb n (tag_bytes p) h)

  -- there is no tag of p bits
  pub no_tag : (why : Refusal) → number {A = Unit {0}} (Err why) ≡ bits_number p → number {A = Unit {0}} (Err why) ≡ tag_number p n
  unfolding tag_number number
  no_tag why e = fault_found (size_number p n ∷ []) e (not_done why)

  -- there is, so it is for the slice to say
  pub some_tag : {b : ℕ} → 0 ≡ bits_number p → b ≡ size_number p n → b ≡ tag_number p n
  unfolding tag_number
  some_tag e f = fault_pass (size_number p n ∷ []) e refl (fault_last f)

-- a tag of p bits in a slice of n bytes
pub record Suits (p n : ℕ) : Type 0 where
  pub bits : Within 128 p
  pub size : n ≡ tag_bytes p

-- number 0 says so
pub suits : (p n : ℕ) → tag_number p n ≡ 0 → Suits p n
unfolding tag_number
suits p n e =
    let f = none_of_two (bits_number p) (size_number p n) e in
    record { bits = bits_within p f.0; size = size_fits p n f.1 }

-- and is what such a tag and slice give
pub suited : (p n : ℕ) → Within 128 p → n ≡ tag_bytes p → tag_number p n ≡ 0
suited p n w h = sym (some_tag p n (bits_none p (up_to_is 128 p w.low w.high)) (fits_size p n h))
