-- Wrong outcomes that the promises do not permit, where the code of a wrong program would have another shape.
-- Assumes nothing.
use Rattle.std.proofs.Common.{◌≡◌, refl, ap, sym, ◌∙◌, Bool, true, false, List, ⊎_elim, ℕ, zero, suc, ◌≤◌, arith, length, get_or, ne_eqb}
use Rattle.pcmac.specs.Taggen.{Tagged}
use Rattle.keys.specs.declared.KeySet.{KeySet}
use Rattle.keys.specs.Answer.{key_answer}
use Rattle.tag.specs.declared.TagAnswer.{TagAnswer}
use Rattle.tag.specs.Answer.{refused_tag, checked_tag, making_answer, making_slice, checking_answer}
use Rattle.tag.proofs.Answered.{making_number, making_refused, making_left, checking_number}
use Rattle.message.specs.Answer.{tagged}
use Rattle.frame.specs.declared.FrameAnswer.{FrameAnswer}
use Rattle.frame.specs.Frame.{refused_frame, frame_answer}
use Rattle.frame.proofs.Verdict.{Checked, tag_accepted, verdict_cases}
use Rattle.collierbud.specs.Answer.{start_number, unless_refused, tagging, tagged_space, checking, opening}
use Rattle.collierbud.specs.Promise.{TagPromise, CheckPromise, OpenPromise}
use Rattle.collierbud.proofs.Answered.{start_key, start_places, is_refused, two_is, two_left, three_is}

-- what holds of the call's answer, and of the refusal of each fault before it, holds of what is answered
by_fault : {A : Type 0} (P : A → Type 0) (number : ℕ) (a : A) (f : ℕ → A) → P a → ((number ≡ 0 → ⊥) → P (f number))
    → P (unless_refused number a f)
unfolding unless_refused
by_fault P zero a f p q = p
by_fault P (suc n) a f p q = let h : suc n ≡ 0 → ⊥ = λ z. omega arith in rw (ne_eqb (suc n) 0 h) (q h)

-- a fault before the call: its number is answered
tag_fault : (number : ℕ) (a : TagAnswer) → (number ≡ 0 → ⊥) → (unless_refused number a refused_tag).number ≡ number
unfolding refused_tag
tag_fault number a h = ap (λ (b : TagAnswer). b.number) (sym (is_refused a refused_tag refl h))

-- a refusal leaves the space, and has no counts
module _ (n : ℕ) (t : Tagged) where
  left : (number : ℕ) (space : List ℕ) → ((unless_refused number (making_answer n t) refused_tag).number ≡ 0 → ⊥)
      → unless_refused number (making_slice n t space) (λ _. space) ≡ space
  unfolding unless_refused
  left zero space u = sym (making_left n t space (making_number n t) u)
  left (suc m) space u = rw (ne_eqb (suc m) 0 (λ z. omega arith))

  countless : (number : ℕ) → ((unless_refused number (making_answer n t) refused_tag).number ≡ 0 → ⊥)
      → (unless_refused number (making_answer n t) refused_tag).whole ≡ 0
  unfolding refused_tag
  countless number =
      by_fault (λ (a : TagAnswer). (a.number ≡ 0 → ⊥) → a.whole ≡ 0) number (making_answer n t) refused_tag
      (λ u. ap (λ (a : TagAnswer). a.whole) (sym (making_refused n t refl (λ z. u (making_number n t ∙ z))))) (λ _ _. refl)

-- making a tag
module _ (order bits : ℕ) (K L message space counts : List ℕ) (r : ℕ) (after counted : List ℕ)
    (p : TagPromise order bits K L message space counts r after counted) where
  -- a fault of the key call that is answered otherwise, as by 3 for the places of the counts
  pub key_fault_not_first : ((key_answer order bits K L).number ≡ 0 → ⊥) → (r ≡ (key_answer order bits K L).number → ⊥) → ⊥
  unfolding tagging
  key_fault_not_first h w =
      let e = start_key (key_answer order bits K L).number 2 (length counts) h in
      w (p.0 ∙ tag_fault _ _ (λ z. h (e ∙ z)) ∙ sym e)

  -- a refusal that has written the space
  pub refusal_writes : (r ≡ 0 → ⊥) → (after ≡ space → ⊥) → ⊥
  unfolding tagging tagged_space
  refusal_writes h w = w (p.1 ∙ left _ _ _ space (λ z. h (p.0 ∙ z)))

  -- a refusal that counts a step
  pub refusal_counts : (r ≡ 0 → ⊥) → length counts ≡ 2 → 1 ≤ get_or counted 0 0 → ⊥
  unfolding tagging
  refusal_counts h e w =
      let a = tagging (key_answer order bits K L) (length counts) message (length space) in
      let z : a.whole ≡ 0 = countless _ _ _ (λ z. h (p.0 ∙ z)) in
      let q : get_or counted 0 0 ≡ a.whole = ap (λ (l : List ℕ). get_or l 0 0) (p.2 ∙ two_is a counts e) in
      omega arith

-- a tag that is accepted was checked, and the check counted
check_counted : (t : Tagged) (bits : ℕ) (received : List ℕ) (n : ℕ) → (checking_answer n bits received t).number ≡ 0
    → (checking_answer n bits received t).whole ≡ t.whole
unfolding checking_answer checked_tag
check_counted t bits received zero e = refl
check_counted t bits received (suc m) e =
    absurd (omega (arith, checking_number (suc m) bits received t (λ z. omega arith)))

-- checking a tag
module _ (order bits : ℕ) (K L message received counts : List ℕ) (r : ℕ) (after : List ℕ)
    (p : CheckPromise order bits K L message received counts r after) where
  -- a tag that is accepted although the key call refuses: it is that of the set of zeros
  pub accepted_without_keys : ((key_answer order bits K L).number ≡ 0 → ⊥) → r ≡ 0 → ⊥
  unfolding checking
  accepted_without_keys h z =
      let e = start_key (key_answer order bits K L).number 2 (length counts) h in
      h (e ∙ sym (tag_fault _ _ (λ u. h (e ∙ u))) ∙ sym p.0 ∙ z)

  -- a tag that is accepted, and another count than that of the message, as none
  pub accepted_with_another_count : r ≡ 0 → length counts ≡ 2
      → (get_or after 0 0 ≡ (tagged (key_answer order bits K L).keys message).whole → ⊥) → ⊥
  unfolding checking refused_tag
  accepted_with_another_count z e w =
      let k = (key_answer order bits K L).keys in
      let a = checking (key_answer order bits K L) (length counts) message received in
      let counted : a.number ≡ 0 → a.whole ≡ (tagged k message).whole =
      by_fault (λ (b : TagAnswer). b.number ≡ 0 → b.whole ≡ (tagged k message).whole) _ _ refused_tag
      (check_counted (tagged k message) k.bits received _) (λ h u. absurd (h u)) in
      w (ap (λ (l : List ℕ). get_or l 0 0) (p.1 ∙ two_is a counts e) ∙ counted (sym p.0 ∙ z))

  -- a slice of other places that is written
  pub other_places_written : (length counts ≡ 2 → ⊥) → (after ≡ counts → ⊥) → ⊥
  other_places_written h w = w (p.1 ∙ sym (two_left _ counts h))

-- other places than those that are asked are a fault, whatever the key call says
places_fault : (number n places : ℕ) → (places ≡ n → ⊥) → start_number number n places ≡ 0 → ⊥
places_fault zero n places h z = let e = start_places zero n places refl h in omega arith
places_fault (suc m) n places h z = let e = start_key (suc m) n places (λ u. omega arith) in omega arith

-- a frame that is refused has no length
frame_short : (k : KeySet) (f : List ℕ) → ((frame_answer k f).number ≡ 0 → ⊥) → (frame_answer k f).body ≡ 0
frame_short k f h = ⊎_elim (λ u. u.body) (λ c. by (tag_accepted k f) c) (verdict_cases k f)
  where
    by : (t : Bool) → Checked k f t → (frame_answer k f).body ≡ 0
    by true c = absurd (h c.number)
    by false c = c.body

-- opening a frame
module _ (order bits : ℕ) (K L frame counts : List ℕ) (r : ℕ) (after : List ℕ)
    (p : OpenPromise order bits K L frame counts r after) where
  -- a refused frame with the length of a body
  pub refused_with_a_length : (r ≡ 0 → ⊥) → length counts ≡ 3 → 1 ≤ get_or after 2 0 → ⊥
  unfolding opening refused_frame
  refused_with_a_length h e w =
      let a = opening (key_answer order bits K L) (length counts) frame in
      let none : (a.number ≡ 0 → ⊥) → a.body ≡ 0 =
      by_fault (λ (b : FrameAnswer). (b.number ≡ 0 → ⊥) → b.body ≡ 0) _ _ _ (frame_short _ frame) (λ _ _. refl) in
      let z = none (λ z. h (p.0 ∙ z)) in
      let q : get_or after 2 0 ≡ a.body = ap (λ (l : List ℕ). get_or l 2 0) (p.1 ∙ three_is a counts e) in
      omega arith

  -- a frame that is opened with two places for the counts and the length
  pub opened_without_a_place : length counts ≡ 2 → r ≡ 0 → ⊥
  unfolding opening refused_frame
  opened_without_a_place e z =
      let h = places_fault (key_answer order bits K L).number 3 (length counts) (λ u. omega arith) in
      h (sym (ap (λ (b : FrameAnswer). b.number) (sym (is_refused _ refused_frame refl h))) ∙ sym p.0 ∙ z)
