-- What the verdict on a frame tells: its number, its counts and its length.
-- Assumes nothing.
use Rattle.std.proofs.Common.{◌≡◌, refl, ap, sym, ◌∙◌, Bool, true, false, List, ◌⊎◌, inl, inr, ⊎_elim, ℕ, arith, eqb, length}
use Rattle.laws.proofs.Cases.{none_or_some}
use Rattle.laws.specs.Pick.{pick}
use Rattle.block.specs.Bits.{bits}
use Rattle.pcmac.specs.Tagver.{accepted}
use Rattle.keys.specs.declared.KeySet.{KeySet}
use Rattle.tag.specs.Answer.{checked_tag}
use Rattle.tag.proofs.Told.{verdict_holds}
use Rattle.message.specs.Answer.{tagged}
use Rattle.frame.specs.declared.FrameAnswer.{FrameAnswer}
use Rattle.frame.specs.Frame.{body_length, body_of, tag_of, frame_number, refused_frame, checked_frame, frame_answer}
use Rattle.frame.proofs.Number.{number_cases}
use Rattle.frame.proofs.Made.{check, answer_refused, answer_checked}

-- the tag of a frame is accepted for its body
abbrev pub tag_accepted : KeySet → List ℕ → Bool
tag_accepted k f = accepted k.bits (bits (tag_of k f)) (tagged k (body_of k f)).tag

-- the verdict where the tag was checked: 0 and the body's length, or 7 and none; the counts in either case
pub record Checked (k : KeySet) (f : List ℕ) (t : Bool) : Type 0 where
  pub none : frame_number k (length f) ≡ 0
  pub tag : tag_accepted k f ≡ t
  pub number : (frame_answer k f).number ≡ pick t 0 7
  pub whole : (frame_answer k f).whole ≡ (tagged k (body_of k f)).whole
  pub four : (frame_answer k f).four ≡ (tagged k (body_of k f)).four
  pub body : (frame_answer k f).body ≡ pick t (body_length k f) 0

-- the verdict where there is a fault: its number, and zeros
pub record Faulty (k : KeySet) (f : List ℕ) : Type 0 where
  pub fault : frame_number k (length f) ≡ 0 → ⊥
  pub number : (frame_answer k f).number ≡ frame_number k (length f)
  pub whole : (frame_answer k f).whole ≡ 0
  pub four : (frame_answer k f).four ≡ 0
  pub body : (frame_answer k f).body ≡ 0

module _ (k : KeySet) (f : List ℕ) where
  pub faulty : (frame_number k (length f) ≡ 0 → ⊥) → Faulty k f
  unfolding refused_frame
  faulty h =
      let e = sym (answer_refused k f refl h) in
      record {
        fault = h;
        number = ap (λ (r : FrameAnswer). r.number) e;
        whole = ap (λ (r : FrameAnswer). r.whole) e;
        four = ap (λ (r : FrameAnswer). r.four) e;
        body = ap (λ (r : FrameAnswer). r.body) e;
      }

  checked_by : (t : Bool) → tag_accepted k f ≡ t → frame_number k (length f) ≡ 0 → Checked k f t
  unfolding checked_frame checked_tag
  checked_by t a z =
      let e = answer_checked k f z in
      let q : (check k f).number ≡ pick t 0 7 = rw a in
      record {
        none = z;
        tag = a;
        number = ap (λ (r : FrameAnswer). r.number) e ∙ q;
        whole = ap (λ (r : FrameAnswer). r.whole) e;
        four = ap (λ (r : FrameAnswer). r.four) e;
        body = ap (λ (r : FrameAnswer). r.body) e ∙ ap (λ (n : ℕ). pick (eqb n 0) (body_length k f) 0) q ∙ by t;
      }
    where
      by : (t : Bool) → pick (eqb (pick t 0 7) 0) (body_length k f) 0 ≡ pick t (body_length k f) 0
      by true = refl
      by false = refl

  -- the tag of a frame without a fault was checked
  pub checked : frame_number k (length f) ≡ 0 → Checked k f (tag_accepted k f)
  checked = checked_by (tag_accepted k f) refl

-- it is accepted: there is no fault, the tag is that of the body, and the length is the body's
pub record Accepted (k : KeySet) (f : List ℕ) : Type 0 where
  pub none : frame_number k (length f) ≡ 0
  pub tag : tag_accepted k f ≡ true
  pub body : (frame_answer k f).body ≡ body_length k f

-- a choice between 0 and 7
pick_seven : (t : Bool) → pick {A = ℕ} t 0 7 ≡ 7 → t ≡ false
pick_seven true e = absurd (omega arith)
pick_seven false e = refl

module _ (k : KeySet) (f : List ℕ) where
  -- either there is a fault, or the tag was checked
  pub verdict_cases : Faulty k f ⊎ Checked k f (tag_accepted k f)
  verdict_cases = ⊎_elim (λ z. inr (checked k f z)) (λ h. inl (faulty k f h)) (none_or_some (frame_number k (length f)))

  -- number 0 tells that it is accepted
  pub is_accepted : (frame_answer k f).number ≡ 0 → Accepted k f
  is_accepted e = ⊎_elim (λ u. absurd (u.fault (sym u.number ∙ e))) by verdict_cases
    where
      by : Checked k f (tag_accepted k f) → Accepted k f
      by c =
          let t = verdict_holds (tag_accepted k f) (sym c.number ∙ e) in
          record { none = c.none; tag = t; body = (checked_by k f true t c.none).body }

  -- number 7 tells that the tag differs, and is what a frame has whose tag differs
  pub is_differing : (frame_answer k f).number ≡ 7 → Checked k f false
  is_differing e = ⊎_elim by (λ c. checked_by k f false (pick_seven (tag_accepted k f) (sym c.number ∙ e)) c.none) verdict_cases
    where
      by : Faulty k f → Checked k f false
      by u =
          let n = sym u.number ∙ e in
          absurd
          (⊎_elim (λ z. omega arith) (⊎_elim (λ z. omega arith) (⊎_elim (λ z. omega arith) (λ z. omega arith)))
          (number_cases k (length f)))

  pub differing_is : frame_number k (length f) ≡ 0 → tag_accepted k f ≡ false → (frame_answer k f).number ≡ 7
  differing_is z t = (checked_by k f false t z).number

  -- a refusal has no counts and no body, but where the tag differs
  pub refused_zeros : ((frame_answer k f).number ≡ 0 → ⊥) → ((frame_answer k f).number ≡ 7 → ⊥)
      → frame_answer k f ≡ refused_frame (frame_answer k f).number
  refused_zeros h s =
      ⊎_elim (λ u. sym (answer_refused k f u.number h)) (λ c. by (tag_accepted k f) c.number) verdict_cases
    where
      by : (t : Bool) → (frame_answer k f).number ≡ pick t 0 7 → frame_answer k f ≡ refused_frame (frame_answer k f).number
      by true e = absurd (h e)
      by false e = absurd (s e)
