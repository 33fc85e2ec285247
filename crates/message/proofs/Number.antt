-- What number 0 tells of a call over a whole message, and what it takes.
-- Assumes nothing.
use Rattle.std.proofs.Common.{◌≡◌, refl, sym, false, ℕ, ◌≤◌, arith}
use Rattle.laws.proofs.Fault.{fault_found, fault_pass, none_of_four, four_none}
use Rattle.pcmac.specs.Limits.{message_limit}
use Rattle.keys.specs.declared.KeySet.{KeySet}
use Rattle.keys.specs.SetNumber.{set_number}
use Rattle.keys.proofs.SetNumber.{Taken, set_taken, taken_set}
use Rattle.tag.specs.Fault.{size_number}
use Rattle.tag.specs.Tag.{tag_bytes}
use Rattle.tag.proofs.Number.{size_fits, fits_size, other_size}
use Rattle.judge.specs.Fault.{length_number, empty_number}
use Rattle.judge.proofs.Faultless.{length_fits, fits_length, empty_some, some_empty}
use Rattle.message.specs.Answer.{message_number}

-- a message of m bytes may be made a tag of, in a slice of n bytes
pub record Tags (k : KeySet) (m n : ℕ) : Type 0 where
  pub set : Taken k
  pub size : n ≡ tag_bytes k.bits
  pub fits : m ≤ message_limit
  pub some : 1 ≤ m

pub tags : (k : KeySet) (m n : ℕ) → message_number k m n ≡ 0 → Tags k m n
unfolding message_number
tags k m n e =
    let f = none_of_four (set_number k) (size_number k.bits n) (length_number m) (empty_number false m) e in
    record {
      set = set_taken k f.0;
      size = size_fits k.bits n f.1;
      fits = length_fits m f.2;
      some = empty_some m f.3;
    }

pub tags_none : (k : KeySet) (m n : ℕ) → Tags k m n → message_number k m n ≡ 0
unfolding message_number
tags_none k m n t =
    four_none (set_number k) (size_number k.bits n) (length_number m) (empty_number false m) (sym (taken_set k t.set))
    (sym (fits_size k.bits n t.size)) (sym (fits_length m t.fits)) (sym (some_empty m t.some))

-- a slice of another size gives 3, whatever the message is
pub other_slice : (k : KeySet) (m n : ℕ) → 0 ≡ set_number k → (n ≡ tag_bytes k.bits → ⊥) → 3 ≡ message_number k m n
unfolding message_number
other_slice k m n z h = fault_pass _ z refl (fault_found _ (other_size k.bits n h) (λ q. omega arith))
