-- Wrong outcomes that the promises, and the contract of the private function `differences`, do not permit.
-- Assumes nothing.
use Rattle.std.proofs.Common.{◌≡◌, ap, sym, ◌∙◌, Bool, true, ◌⊎◌, ⊎_elim, List, ◌∷◌, ◌++◌, ℕ, ◌+◌, ◌-◌, ◌*◌, ◌/◌, ◌%◌, ◌≤◌, ◌<◌, le_trans}
use Rattle.std.proofs.Common.{arith, length, get_or, replicate}
use Rattle.std.proofs.Math.ListN.{get_or-eq_default}
use Rattle.laws.specs.Pick.{pick}
use Rattle.laws.proofs.Filled.{zeros_behind}
use Rattle.laws.proofs.UpTo.{Within}
use Rattle.block.specs.Bits.{bits, bytes}
use Rattle.block.specs.Block.{cut}
use Rattle.block.proofs.Digits.{bytes_spell}
use Rattle.chain.specs.declared.Chain.{Chain}
use Rattle.pcmac.specs.Tagver.{accepted}
use Rattle.pcmac.proofs.Tagver.{accepted_equal, equal_accepted, spare_set}
use Rattle.tag.specs.declared.TagAnswer.{TagAnswer}
use Rattle.tag.specs.Answer.{tagged_by, refused_tag, checked_tag}
use Rattle.tag.specs.Difference.{differences}
use Rattle.tag.specs.Fault.{tag_number}
use Rattle.tag.specs.Tag.{tag_bytes}
use Rattle.tag.specs.Promise.{SizePromise, RefusedPromise, SizeFaultPromise, WritePromise, ComparePromise}
use Rattle.tag.proofs.Answered.{making_number, slice_is, checking_is}
use Rattle.tag.proofs.Number.{fits_size, other_size, suits, suited}
use Rattle.tag.proofs.Tagged.{cut_digits, cut_within}
use Rattle.tag.proofs.Told.{making_leaves, checked_fault, checked_accepted}

-- a size that is rounded down
pub size_rounded_down : (p r : ℕ) → (p % 8 ≡ 0 → ⊥) → SizePromise p r → r ≡ p / 8 → ⊥
size_rounded_down p r h e w = h (omega arith)

-- whole bytes that occupy one more
pub size_one_more : (p r : ℕ) → p % 8 ≡ 0 → SizePromise p r → r ≡ p / 8 + 1 → ⊥
size_one_more p r h e w = omega arith

module _ (number : ℕ) (r : TagAnswer) (e : RefusedPromise number r) where
  -- a refusal that carries 0 for its number
  pub refused_as_done : (number ≡ 0 → ⊥) → r.number ≡ 0 → ⊥
  unfolding refused_tag
  refused_as_done h z = h (sym (ap (λ (x : TagAnswer). x.number) e) ∙ z)

  -- or counts
  pub refused_with_counts : 1 ≤ r.whole + r.four → ⊥
  unfolding refused_tag
  refused_with_counts h =
      let w = ap (λ (x : TagAnswer). x.whole) e in
      let f = ap (λ (x : TagAnswer). x.four) e in
      omega arith

-- a slice of another size, a longer one as any, that is taken or given another number
pub size_not_three : (p n r : ℕ) → (n ≡ tag_bytes p → ⊥) → SizeFaultPromise p n r → (r ≡ 3 → ⊥) → ⊥
size_not_three p n r h e w = w (e ∙ sym (other_size p n h))

-- a slice of the right size that is refused
pub size_refused : (p n r : ℕ) → n ≡ tag_bytes p → SizeFaultPromise p n r → (r ≡ 0 → ⊥) → ⊥
size_refused p n r h e w = w (e ∙ sym (fits_size p n h))

-- number 0 where there is no tag of p bits: none, or more than 128
no_such_tag : (p n : ℕ) → (p ≡ 0) ⊎ (128 < p) → tag_number p n ≡ 0 → ⊥
no_such_tag p n h z =
    let s = suits p n z in
    ⊎_elim (λ e. omega (arith, s.bits.low)) (λ l. omega (arith, s.bits.high)) h

-- writing
module _ (c : Chain) (p : ℕ) (slice : List ℕ) (r : TagAnswer) (after : List ℕ) (e : WritePromise c p slice r after) where
  abbrev tag_bytes_is : List ℕ
  tag_bytes_is = bytes (cut p c.value)

  number : r.number ≡ tag_number p (length slice)
  number = ap (λ (x : TagAnswer). x.number) e.0 ∙ making_number (tag_number p (length slice)) (tagged_by p c)

  -- 0 for a tag length that does not exist
  pub no_tag_written : (p ≡ 0) ⊎ (128 < p) → r.number ≡ 0 → ⊥
  no_tag_written h z = no_such_tag p (length slice) h (sym number ∙ z)

  -- 0 for a slice that is not of the tag's size
  pub other_size_written : (length slice ≡ tag_bytes p → ⊥) → r.number ≡ 0 → ⊥
  other_size_written h z = h (suits p (length slice) (sym number ∙ z)).size

  -- a refusal that writes
  pub refused_writing_writes : (r.number ≡ 0 → ⊥) → (after ≡ slice → ⊥) → ⊥
  refused_writing_writes h w = w (making_leaves (tag_number p (length slice)) (tagged_by p c) slice after r e.0 e.1 h).0

  -- a byte of the tag that is lost, or another in its place: the last as any
  pub tag_byte_lost : r.number ≡ 0 → (i : ℕ) → (get_or after i 0 ≡ get_or tag_bytes_is i 0 → ⊥) → ⊥
  unfolding tagged_by
  tag_byte_lost z i w =
      let n = tag_number p (length slice) in
      w (ap (λ (x : List ℕ). get_or x i 0) (e.1 ∙ slice_is n (tagged_by p c) slice (sym number ∙ z)))

  -- spare bits that are written as ones, or one of them
  pub spare_bit_written : r.number ≡ 0 → (i : ℕ) → p ≤ i → get_or (bits after) i 0 ≡ 1 → ⊥
  unfolding tagged_by
  spare_bit_written z i h one =
      let tag = cut p c.value in
      let is = e.1 ∙ slice_is (tag_number p (length slice)) (tagged_by p c) slice (sym number ∙ z) in
      let spelt = bytes_spell tag (cut_digits p c.value) in
      let reads = zeros_behind tag (8 * length (bytes tag) - length tag) i in
      let none = get_or-eq_default tag 0 (le_trans (cut_within p c.value) h) in
      omega (arith, ap (λ (x : List ℕ). get_or (bits x) i 0) is, ap (λ (x : List ℕ). get_or x i 0) spelt.back, reads, none)

-- comparing
module _ (c : Chain) (p : ℕ) (received : List ℕ) (r : TagAnswer) (e : ComparePromise c p received r) where
  -- 0 for a tag length that does not exist, as where no bits are compared
  pub no_tag_accepted : (p ≡ 0) ⊎ (128 < p) → r.number ≡ 0 → ⊥
  no_tag_accepted h z =
      no_such_tag p (length received) h (checked_fault (tag_number p (length received)) p received (tagged_by p c) r e z)

  -- 0 for a slice that is not of the tag's size
  pub other_size_accepted : (length received ≡ tag_bytes p → ⊥) → r.number ≡ 0 → ⊥
  other_size_accepted h z =
      h (suits p (length received) (checked_fault (tag_number p (length received)) p received (tagged_by p c) r e z)).size

  module _ (w : Within 128 p) (size : length received ≡ tag_bytes p) where
    number_by : (t : Bool) → accepted p (bits received) (cut p c.value) ≡ t → r.number ≡ pick t 0 7
    unfolding checked_tag tagged_by
    number_by t a =
        ap (λ (x : TagAnswer). x.number)
        (e ∙ checking_is (tag_number p (length received)) (tagged_by p c) p received (suited p (length received) w size))
        ∙ ap (λ (b : Bool). pick {A = ℕ} b 0 7) a

    -- a tag that is refused although it is the value's and then zeros, as where every tag is
    pub same_bits_refused : bits received ≡ cut p c.value ++ replicate (length (bits received) - p) 0 → r.number ≡ 7 → ⊥
    same_bits_refused q z =
        let n = number_by true (equal_accepted p (bits received) (cut p c.value) q) in
        omega arith

  -- a tag that is accepted although it is not so: compared with itself, by its first byte alone, or by its stated bits alone
  pub other_bits_accepted : (bits received ≡ cut p c.value ++ replicate (length (bits received) - p) 0 → ⊥) → r.number ≡ 0 → ⊥
  unfolding tagged_by
  other_bits_accepted h z = h (accepted_equal p (bits received) (cut p c.value) (checked_accepted _ p received (tagged_by p c) r e z))

  -- a tag that is accepted although a spare bit of it is set: one of them, or all
  pub spare_bit_accepted : (i : ℕ) → p ≤ i → get_or (bits received) i 0 ≡ 1 → r.number ≡ 0 → ⊥
  unfolding tagged_by
  spare_bit_accepted i h one z =
      spare_set p (bits received) (cut p c.value) (checked_accepted _ p received (tagged_by p c) r e z) (cut_within p c.value) i h one

-- `differences` does not hand back the first difference alone, as a loop that leaves there would: of tags that differ by 80 in their first
-- byte and by 01 in their second, 81 and not 80
pub first_difference_alone : (r : ℕ) → r ≡ 0x80 → r ≡ differences 16 (0x80 ∷ 0x01 ∷ replicate 14 0x00) (replicate 16 0x00) → ⊥
unfolding differences
first_difference_alone r h e = let z : r ≡ 0x81 = e in omega arith
