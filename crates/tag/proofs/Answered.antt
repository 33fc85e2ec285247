-- Which answer a call gives, by the number of its first fault; and that the engine's closing step gives the tag of Algorithm 2.2.
-- Assumes nothing.
use Rattle.std.proofs.Common.{◌≡◌, refl, ap, sym, ◌∙◌, Bool, true, false, List, ℕ, zero, suc, ◌≤◌, arith, eqb, length, eq-eqb, ne_eqb}
use Rattle.std.proofs.Common.{eqb-true, Ok, Err}
use Rattle.laws.specs.Pick.{pick}
use Rattle.laws.proofs.UpTo.{Within}
use Rattle.aes.proofs.Length.{cipher_length}
use Rattle.block.specs.Bits.{bytes}
use Rattle.block.specs.Block.{zeros, cut}
use Rattle.chain.specs.declared.Chain.{Chain}
use Rattle.pcmac.specs.Taggen.{Tagged, sealed}
use Rattle.keys.specs.declared.KeySet.{KeySet}
use Rattle.keys.specs.KeysIn.{keys_in}
use Rattle.engine.specs.Engine.{closing, sealing, sealed_by}
use Rattle.engine.proofs.Room.{Room, room_roomy, sealed_room}
use Rattle.engine.proofs.Together.{engine_sealed}
use Rattle.tag.specs.Fault.{tag_number}
use Rattle.tag.specs.Tag.{tag_bytes}
use Rattle.tag.specs.Answer.{tagged_by, refused_tag, made_tag, checked_tag, making_answer, making_slice, checking_answer}
use Rattle.numbers.specs.declared.Refusal.{Refusal}
use Rattle.numbers.specs.Told.{number, number_of}
use Rattle.numbers.proofs.Number.{not_done}
use Rattle.tag.specs.declared.Checked.{Checked}
use Rattle.tag.specs.declared.Counts.{Counts}
use Rattle.tag.specs.Told.{told_made, told_checked}
use Rattle.tag.specs.declared.TagAnswer.{TagAnswer}
use Rattle.tag.specs.Inner.{Sealed}
use Rattle.tag.specs.Promise.{WritePromise, ComparePromise}
use Rattle.tag.proofs.Number.{suited}

module _ (n : ℕ) (t : Tagged) where
  -- refused: the answer, and the slice as it is
  pub making_refused : {r : ℕ} → r ≡ n → (r ≡ 0 → ⊥) → refused_tag r ≡ making_answer n t
  unfolding making_answer
  making_refused e h = rw (ne_eqb n 0 (λ z. h (e ∙ z))) (ap refused_tag e)

  pub making_left : (l : List ℕ) {r : ℕ} → r ≡ n → (r ≡ 0 → ⊥) → l ≡ making_slice n t l
  unfolding making_slice
  making_left l e h = rw (ne_eqb n 0 (λ z. h (e ∙ z)))

  pub checking_refused : (p : ℕ) (l : List ℕ) {r : ℕ} → r ≡ n → (r ≡ 0 → ⊥) → refused_tag r ≡ checking_answer n p l t
  unfolding checking_answer
  checking_refused p l e h = rw (ne_eqb n 0 (λ z. h (e ∙ z))) (ap refused_tag e)

  -- no fault: made, or checked
  pub making_is : n ≡ 0 → making_answer n t ≡ made_tag t
  unfolding making_answer
  making_is e = rw (eq-eqb n 0 e)

  pub slice_is : (l : List ℕ) → n ≡ 0 → making_slice n t l ≡ bytes t.tag
  unfolding making_slice
  slice_is l e = rw (eq-eqb n 0 e)

  pub checking_is : (p : ℕ) (l : List ℕ) → n ≡ 0 → checking_answer n p l t ≡ checked_tag p l t
  unfolding checking_answer
  checking_is p l e = rw (eq-eqb n 0 e)

-- the number of a call that makes a tag is that of its first fault
pub making_number : (n : ℕ) (t : Tagged) → (making_answer n t).number ≡ n
unfolding making_answer made_tag refused_tag
making_number zero t = refl
making_number (suc n) t = rw (ne_eqb (suc n) 0 (λ z. omega arith))

-- and of one that checks a tag too, where there is a fault
pub checking_number : (n p : ℕ) (l : List ℕ) (t : Tagged) → (n ≡ 0 → ⊥) → (checking_answer n p l t).number ≡ n
unfolding checking_answer refused_tag
checking_number n p l t h = rw (ne_eqb n 0 h)

-- a choice by a number's being 0 goes through what is chosen
pick_same : {A : Type 0} (n : ℕ) (a a' b : A) → (n ≡ 0 → a ≡ a') → pick (eqb n 0) a b ≡ pick (eqb n 0) a' b
pick_same {A} n a a' b q = by (eqb n 0) refl
  where
    by : (t : Bool) → eqb n 0 ≡ t → pick t a b ≡ pick t a' b
    by true z = q (eqb-true n 0 z)
    by false z = refl

-- calls with the same first fault, and the same tag where there is none, have the same outcome
module _ {n n' : ℕ} {t t' : Tagged} (e : n ≡ n') (q : n ≡ 0 → t ≡ t') where
  pub making_same : making_answer n t ≡ making_answer n' t'
  unfolding making_answer
  making_same = rw (← e) (pick_same n (made_tag t) (made_tag t') (refused_tag n) (λ z. ap made_tag (q z)))

  pub slice_same : (l : List ℕ) → making_slice n t l ≡ making_slice n' t' l
  unfolding making_slice
  slice_same l = rw (← e) (pick_same n (bytes t.tag) (bytes t'.tag) l (λ z. ap (λ (u : Tagged). bytes u.tag) (q z)))

  pub checking_same : (p : ℕ) (l : List ℕ) → checking_answer n p l t ≡ checking_answer n' p l t'
  unfolding checking_answer
  checking_same p l =
      rw (← e) (pick_same n (checked_tag p l t) (checked_tag p l t') (refused_tag n) (λ z. ap (checked_tag p l) (q z)))

-- a refusal is told by the number of the fault that was found
module _ (n : ℕ) (t : Tagged) (why : Refusal) (e : number {A = Unit {0}} (Err why) ≡ n) where
  pub making_err : told_made (Err why) ≡ making_answer n t
  unfolding number told_made refused_tag
  making_err = making_refused n t e (not_done why)

  pub making_stays : (l : List ℕ) → l ≡ making_slice n t l
  unfolding number
  making_stays l = making_left n t l e (not_done why)

  pub checking_err : (p : ℕ) (l : List ℕ) (r : Checked) → told_checked r ≡ refused_tag (number_of why)
      → told_checked r ≡ checking_answer n p l t
  unfolding number
  checking_err p l r q = q ∙ checking_refused n t p l e (not_done why)

-- the tag of a chain after the closing step, of p bits, in a slice l
module _ (p : ℕ) (c : Chain) (l : List ℕ) where
  -- made
  pub slice_made : {s : List ℕ} → tag_number p (length l) ≡ 0 → (counts : Counts) → counts ≡ record { whole = c.whole; four = c.four }
      → s ≡ bytes (cut p c.value) → WritePromise c p l (told_made (Ok counts)) s
  unfolding made_tag tagged_by told_made
  slice_made z counts k e =
      let n = tag_number p (length l) in
      (ap (λ (x : Counts). told_made (Ok x)) k ∙ sym (making_is n (tagged_by p c) z), e ∙ sym (slice_is n (tagged_by p c) l z))

  -- under a call without a fault of its own, for a tag length and a slice that it has judged
  module _ (n : ℕ) (t : Tagged) (e : n ≡ 0) (w : Within 128 p) (h : length l ≡ tag_bytes p) (s : Sealed p t c) where
    same : tag_number p (length l) ≡ n
    same = suited p (length l) w h ∙ sym e

    pub making_written : {r : TagAnswer} {after : List ℕ} → WritePromise c p l r after
        → (r ≡ making_answer n t) × (after ≡ making_slice n t l)
    making_written q = (q.0 ∙ making_same same (λ z. s.tag), q.1 ∙ slice_same same (λ z. s.tag) l)

    pub checking_checked : {r : TagAnswer} → ComparePromise c p l r → r ≡ checking_answer n p l t
    checking_checked q = q ∙ checking_same same (λ z. s.tag) p l

module _ (set : KeySet) (c : Chain) (last : List ℕ) (room : Room c) where
  sealed_is : sealed_by set.round set.full set.short c last ≡ sealing set.round set.full set.short c last
  sealed_is = sealed_room set.round set.full set.short c last (room_roomy c room)

  -- the closing step gives sixteen bytes, of which the tag is cut, with the counts, as Algorithm 2.2 does
  pub sealed_by_is : (p m : ℕ) {r : Chain} → r ≡ sealed_by set.round set.full set.short c last → 1 ≤ length last
      → length last ≤ 16 → (m ≡ 1 → c.value ≡ zeros) → Sealed p (sealed (keys_in set) p m c last) r
  unfolding sealing tagged_by
  sealed_by_is p m e a b z = record {
    size =
        ap (λ (x : Chain). length x.value) (e ∙ sealed_is)
        ∙ cipher_length set.round (closing set.full set.short c.value last);
    tag = ap (tagged_by p) (e ∙ sealed_is) ∙ engine_sealed set p m c last a b z;
  }
