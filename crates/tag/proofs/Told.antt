-- What the answer of a call that makes or checks a tag tells, by its number.
-- Assumes nothing.
use Rattle.std.proofs.Common.{◌≡◌, refl, ap, sym, ◌∙◌, Bool, true, false, ◌⊎◌, inl, inr, ⊎_elim, List, ℕ, arith}
use Rattle.laws.specs.Pick.{pick}
use Rattle.laws.proofs.Cases.{none_told}
use Rattle.block.specs.Bits.{bits}
use Rattle.pcmac.specs.Taggen.{Tagged}
use Rattle.pcmac.specs.Tagver.{accepted}
use Rattle.tag.specs.declared.TagAnswer.{TagAnswer}
use Rattle.tag.specs.Answer.{refused_tag, checked_tag, making_answer, making_slice, checking_answer}
use Rattle.tag.proofs.Answered.{making_refused, making_left, making_number, checking_refused, checking_is, checking_number}

-- an answer that makes a tag, refused: the slice and the counts
pub making_leaves : (n : ℕ) (t : Tagged) (slice after : List ℕ) (r : TagAnswer) → r ≡ making_answer n t → after ≡ making_slice n t slice
    → (r.number ≡ 0 → ⊥) → (after ≡ slice) × (r.whole ≡ 0) × (r.four ≡ 0)
unfolding refused_tag
making_leaves n t slice after r e q h =
    let z : n ≡ 0 → ⊥ = λ z. h (ap (λ (x : TagAnswer). x.number) e ∙ making_number n t ∙ z) in
    let is : r ≡ refused_tag n = e ∙ sym (making_refused n t refl z) in
    (q ∙ sym (making_left n t slice refl z), ap (λ (x : TagAnswer). x.whole) is, ap (λ (x : TagAnswer). x.four) is)

-- a verdict by a test is 0 or 7
pub verdict_by : (b : Bool) {n : ℕ} → n ≡ pick b 0 7 → (n ≡ 0) ⊎ (n ≡ 7)
verdict_by true e = inl e
verdict_by false e = inr e

-- and 0 says that the test holds
pub verdict_holds : (b : Bool) → pick {A = ℕ} b 0 7 ≡ 0 → b ≡ true
verdict_holds true e = refl
verdict_holds false e = absurd (omega arith)

-- an answer that checks a tag, by its number: none but 0 and 7 carries counts
checking_none : (n p : ℕ) (l : List ℕ) (t : Tagged) (r : TagAnswer) → r ≡ checking_answer n p l t → (r.number ≡ 0 → ⊥)
    → (r.number ≡ 7 → ⊥) → n ≡ 0 → ⊥
unfolding checked_tag
checking_none n p l t r e a b z =
    ⊎_elim a b (verdict_by (accepted p (bits l) t.tag) (ap (λ (x : TagAnswer). x.number) (e ∙ checking_is n t p l z)))

-- number 0 says that there is no fault
pub checked_fault : (n p : ℕ) (l : List ℕ) (t : Tagged) (r : TagAnswer) → r ≡ checking_answer n p l t → r.number ≡ 0 → n ≡ 0
checked_fault n p l t r e z = none_told n (λ h. ap (λ (x : TagAnswer). x.number) e ∙ checking_number n p l t h) z

-- and that the received tag is accepted
pub checked_accepted : (n p : ℕ) (l : List ℕ) (t : Tagged) (r : TagAnswer) → r ≡ checking_answer n p l t → r.number ≡ 0
    → accepted p (bits l) t.tag ≡ true
unfolding checked_tag
checked_accepted n p l t r e z =
    verdict_holds (accepted p (bits l) t.tag)
    (ap (λ (x : TagAnswer). x.number) (sym (e ∙ checking_is n t p l (checked_fault n p l t r e z))) ∙ z)

pub checking_leaves : (n p : ℕ) (l : List ℕ) (t : Tagged) (r : TagAnswer) → r ≡ checking_answer n p l t → (r.number ≡ 0 → ⊥)
    → (r.number ≡ 7 → ⊥) → (r.whole ≡ 0) × (r.four ≡ 0)
unfolding refused_tag
checking_leaves n p l t r e a b =
    let is : r ≡ refused_tag n = e ∙ sym (checking_refused n t p l refl (checking_none n p l t r e a b)) in
    (ap (λ (x : TagAnswer). x.whole) is, ap (λ (x : TagAnswer). x.four) is)
