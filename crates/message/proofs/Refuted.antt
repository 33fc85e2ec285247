-- Wrong outcomes that the promises do not permit.
-- Assumes nothing.
use Rattle.std.proofs.Common.{◌≡◌, ap, sym, ◌∙◌, List, ◌++◌, ℕ, ◌-◌, ◌≤◌, ◌<◌, arith, length, get_or, replicate}
use Rattle.block.specs.Bits.{bits}
use Rattle.pcmac.specs.Limits.{message_limit}
use Rattle.pcmac.specs.Taggen.{sealed, taggen}
use Rattle.pcmac.proofs.Tagver.{accepted_equal, spare_set}
use Rattle.keys.specs.declared.KeySet.{KeySet}
use Rattle.keys.specs.SetNumber.{set_number}
use Rattle.tag.specs.declared.TagAnswer.{TagAnswer}
use Rattle.tag.specs.Tag.{tag_bytes}
use Rattle.tag.proofs.Answered.{making_number}
use Rattle.tag.proofs.Tagged.{cut_within}
use Rattle.tag.proofs.Told.{making_leaves, checked_fault, checked_accepted}
use Rattle.message.specs.Answer.{message_number, tagged}
use Rattle.message.specs.Promise.{TagPromise, VerifyPromise}
use Rattle.message.proofs.Number.{tags, other_slice}

module _ (k : KeySet) (M slice : List ℕ) (r : TagAnswer) (after : List ℕ) (e : TagPromise k M slice r after) where
  number_is : r.number ≡ message_number k (length M) (length slice)
  number_is =
      ap (λ (x : TagAnswer). x.number) e.0 ∙ making_number (message_number k (length M) (length slice)) (tagged k M)

  -- a message of no bytes that is taken
  pub empty_message_taken : length M ≡ 0 → r.number ≡ 0 → ⊥
  empty_message_taken h z = omega (arith, (tags k (length M) (length slice) (sym number_is ∙ z)).some)

  -- one that is too long and is taken
  pub long_message_taken : message_limit < length M → r.number ≡ 0 → ⊥
  long_message_taken h z = omega (arith, (tags k (length M) (length slice) (sym number_is ∙ z)).fits)

  -- the fault of its length before that of the slice
  pub length_before_size : set_number k ≡ 0 → (length slice ≡ tag_bytes k.bits → ⊥) → r.number ≡ 5 → ⊥
  length_before_size s h z = omega (arith, number_is, other_slice k (length M) (length slice) (sym s) h)

  -- a refusal that writes the slice
  pub refusal_writes_tagging : (r.number ≡ 0 → ⊥) → (after ≡ slice → ⊥) → ⊥
  refusal_writes_tagging h w =
      w (making_leaves (message_number k (length M) (length slice)) (tagged k M) slice after r e.0 e.1 h).0

-- a check that takes the tag length from the received tag, and so accepts a shorter one, or a longer
pub other_size_verified : (k : KeySet) (M received : List ℕ) (r : TagAnswer) → (length received ≡ tag_bytes k.bits → ⊥)
    → VerifyPromise k M received r → r.number ≡ 0 → ⊥
other_size_verified k M received r h e z =
    h (tags k (length M) (length received) (checked_fault _ k.bits received (tagged k M) r e z)).size

-- a check that accepts other bits than the tag's: fewer of them compared, as many as the order is, or from the second byte on
pub other_tag_verified : (k : KeySet) (M received : List ℕ) (r : TagAnswer)
    → (bits received ≡ (tagged k M).tag ++ replicate (length (bits received) - k.bits) 0 → ⊥) → VerifyPromise k M received r → r.number ≡ 0
    → ⊥
other_tag_verified k M received r h e z =
    h (accepted_equal k.bits (bits received) (tagged k M).tag (checked_accepted _ k.bits received (tagged k M) r e z))

-- or a tag of which a spare bit is set: one of them, or all
pub spare_bit_verified : (k : KeySet) (M received : List ℕ) (r : TagAnswer) (i : ℕ) → k.bits ≤ i → get_or (bits received) i 0 ≡ 1
    → VerifyPromise k M received r → r.number ≡ 0 → ⊥
unfolding tagged taggen sealed
spare_bit_verified k M received r i h one e z =
    let t = checked_accepted _ k.bits received (tagged k M) r e z in
    spare_set k.bits (bits received) (tagged k M).tag t (cut_within k.bits _) i h one
