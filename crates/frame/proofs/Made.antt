-- The verdict on a frame, by what was found on the way to it.
-- Assumes nothing.
use Rattle.std.proofs.Common.{◌≡◌, refl, ap, sym, ◌∙◌, Result, Ok, Err, List, ℕ, ◌-◌, ◌≤◌, arith, length, take, drop}
use Rattle.std.proofs.Common.{length-drop, length-take-le, eq-eqb, ne_eqb}
use Rattle.std.specs.Result.{result_and}
use Rattle.laws.proofs.Lent.{lent_rest}
use Rattle.keys.specs.declared.KeySet.{KeySet}
use Rattle.numbers.specs.declared.Refusal.{Refusal}
use Rattle.numbers.specs.Told.{number, number_of}
use Rattle.numbers.proofs.Number.{not_done}
use Rattle.tag.specs.declared.Checked.{Checked}
use Rattle.tag.specs.Told.{told_checked}
use Rattle.tag.specs.declared.TagAnswer.{TagAnswer}
use Rattle.tag.specs.Answer.{checked_tag}
use Rattle.tag.specs.Tag.{tag_bytes}
use Rattle.tag.proofs.Answered.{checking_is}
use Rattle.message.specs.Answer.{message_number, tagged, verdict}
use Rattle.message.proofs.Number.{tags_none}
use Rattle.frame.specs.Frame.{body_length, body_of, tag_of, frame_number, refused_frame, checked_frame, frame_answer}
use Rattle.frame.specs.Told.{told_frame}
use Rattle.frame.proofs.Number.{Framed, framed}

-- what is told of a check with the length of a body where it accepts
told_is : (v : Checked) (n : ℕ) → told_frame (record { body = result_and v.outcome (Ok n); counts = v.counts })
    ≡ checked_frame (told_checked v) n
unfolding told_frame told_checked checked_frame number
told_is v n = by v.outcome
  where
    by : (o : Result Unit Refusal) → told_frame (record { body = result_and o (Ok n); counts = v.counts })
        ≡ checked_frame (told_checked (record { outcome = o; counts = v.counts })) n
    by (Ok u) = refl
    by (Err why) = rw (ne_eqb (number_of why) 0 (not_done why))

-- the number of a body's outcome is that of the outcome without the body
pub number_and : (b : Result ℕ Refusal) → number (result_and {U = Unit {0}} b (Ok (tt {0}))) ≡ number b
unfolding number
number_and (Ok n) = refl
number_and (Err why) = refl

module _ (k : KeySet) (f : List ℕ) where
  -- the body, and the tag behind it
  pub body_length_is : length (body_of k f) ≡ body_length k f
  unfolding body_of
  body_length_is = length-take-le (body_length k f) f (omega arith)

  pub tag_length : tag_bytes k.bits ≤ length f → length (tag_of k f) ≡ tag_bytes k.bits
  unfolding tag_of
  tag_length h = length-drop (body_length k f) f ∙ omega arith

  -- a fault is the answer
  pub answer_refused : {r : ℕ} → r ≡ frame_number k (length f) → (r ≡ 0 → ⊥) → refused_frame r ≡ frame_answer k f
  unfolding frame_answer
  answer_refused e h = rw (ne_eqb (frame_number k (length f)) 0 (λ z. h (e ∙ z))) (ap refused_frame e)

  -- without one the tag is checked
  abbrev pub check : TagAnswer
  check = checked_tag k.bits (tag_of k f) (tagged k (body_of k f))

  pub answer_checked : frame_number k (length f) ≡ 0 → frame_answer k f ≡ checked_frame check (body_length k f)
  unfolding frame_answer
  answer_checked e = rw (eq-eqb (frame_number k (length f)) 0 e)

  -- a frame without a fault has a body and a tag without one
  message_none : Framed k (length f) → message_number k (length (body_of k f)) (length (tag_of k f)) ≡ 0
  message_none g =
      let m = body_length_is in
      let n = tag_length (omega (arith, g.some)) in
      tags_none k _ _ (record {
        set = g.set;
        size = n;
        fits = omega (arith, g.fits);
        some = omega (arith, g.some);
      })

  -- so what the check of the two answers is the check
  verified : {v : TagAnswer} → Framed k (length f) → v ≡ verdict k (body_of k f) (tag_of k f) → v ≡ check
  verified g e = e ∙ checking_is _ (tagged k (body_of k f)) k.bits (tag_of k f) (message_none g)

  -- and the verdict on the frame is made of it, where s is what a tag occupies
  pub answer_made : {s : ℕ} {b : Result ℕ Refusal} (v : Checked) → frame_number k (length f) ≡ 0 → s ≡ tag_bytes k.bits
      → b ≡ result_and v.outcome (Ok (length f - s))
      → told_checked v ≡ verdict k (take (length f - s) f) (take (length f - (length f - s)) (drop (length f - s) f))
      → told_frame (record { body = b; counts = v.counts }) ≡ frame_answer k f
  unfolding body_of tag_of
  answer_made {s} {b} v z q g e =
      let n : length f - s ≡ body_length k f = ap (λ (x : ℕ). length f - x) q in
      let parts = ap (λ (x : ℕ). verdict k (take x f) (take (length f - x) (drop x f))) n in
      let rest = ap (verdict k (body_of k f)) (lent_rest f (body_length k f)) in
      let is = verified (framed k (length f) z) (e ∙ parts ∙ rest) in
      ap (λ (x : Result ℕ Refusal). told_frame (record { body = x; counts = v.counts })) (g ∙ ap (λ (x : ℕ). result_and v.outcome (Ok x)) n)
      ∙ told_is v (body_length k f) ∙ ap (λ (w : TagAnswer). checked_frame w (body_length k f)) is ∙ sym (answer_checked z)
