-- The demands on the calls over frames hold.
-- Assumes nothing.
use Rattle.std.specs.Prelude.{◌≡◌, refl, ◌↔◌, List, [], ◌++◌, ℕ, ◌+◌, ◌≤◌, length, take, drop}
use Rattle.std.proofs.Common.{ap, sym, ◌∙◌, ⊎_elim, arith, length-append, take_at, drop_at, ne_eqb, Bor}
use Rattle.laws.specs.Pick.{pick}
use Rattle.laws.proofs.Fault.{fault_found}
use Rattle.block.specs.Bits.{bytes}
use Rattle.pcmac.specs.Taggen.{TAGGEN}
use Rattle.keys.specs.declared.KeyAnswer.{KeyAnswer}
use Rattle.keys.specs.declared.KeySet.{KeySet}
use Rattle.keys.specs.SetNumber.{set_number}
use Rattle.keys.proofs.SetNumber.{set_taken}
use Rattle.tag.specs.declared.TagAnswer.{TagAnswer}
use Rattle.tag.specs.Answer.{refused_tag}
use Rattle.tag.specs.Tag.{tag_bytes}
use Rattle.tag.proofs.Answered.{checking_is, checking_refused}
use Rattle.message.specs.Answer.{message_number, tagged}
use Rattle.message.specs.Promise.{VerifyPromise}
use Rattle.message.proofs.Number.{tags_none}
use Rattle.hex_line.specs.Answer.{decode_number}
use Rattle.hex_line.specs.Line.{decoded}
use Rattle.frame.specs.declared.FrameAnswer.{FrameAnswer}
use Rattle.frame.specs.Frame.{body_of, tag_of, frame_number, refused_frame, checked_frame}
use Rattle.frame.specs.Open.{opened, opened_or, opened_at}
use Rattle.frame.specs.Promise.{JudgePromise, OpenPromise, OpenOrPromise}
use Rattle.frame.proofs.Number.{frame_set, framed_none}
use Rattle.frame.proofs.Made.{body_length_is, tag_length, answer_refused, answer_checked}
use Rattle.frame.proofs.Verdict.{checked, tag_accepted, is_differing, refused_zeros}
use Rattle.frame.proofs.Opened.{opened_accepted, opened_or_accepted, opened_at_accepted, number_is, body_is, open_none, open_or_table}
use Rattle.answer.specs.Promise.{OfLinePromise}
use Rattle.demands.specs.Numbers.{Verdict}
use Rattle.demands.specs.Terms.{Made, Frame, body_end, Genuine}
use Rattle.demands.proofs.KeySet.{made_taken}
use Rattle.demands.proofs.Lines.{line_faulty, line_read}
use Rattle.demands.proofs.Numbers.{decided}
use Rattle.demands.proofs.TagBits.{taggen_length, taggen_right, right_accepted}
use Rattle.laws.proofs.Cases.{none_or_some}

-- opening has an answer
pub opens : (k : KeySet) (frame : Bor (List ℕ)) → (o : Bor (List ℕ)) × OpenPromise k frame o
opens k frame =
    let o : Bor (List ℕ) = record { ref_ptr = frame.ref_ptr; now = opened k frame.now } in
    (o, (refl, refl))

pub opens_or : (k : KeySet) (frame table : Bor (List ℕ)) → (o : Bor (List ℕ)) × OpenOrPromise k frame table o
opens_or k frame table =
    let o : Bor (List ℕ) = record {
      ref_ptr = opened_at k frame.now frame.ref_ptr table.ref_ptr;
      now = opened_or k frame.now table.now;
    } in
    (o, (refl, refl))

-- judging, for whichever key set
module _ (k : KeySet) (f : List ℕ) (r : FrameAnswer) where
  pub judge_refused : JudgePromise k f r → (r.number ≡ 0 → ⊥) → (r.number ≡ 7 → ⊥) → (r.whole ≡ 0) × (r.four ≡ 0) × (r.body ≡ 0)
  unfolding refused_frame
  judge_refused e a b =
      let is = e ∙ refused_zeros k f (λ z. a (number_is k f e ∙ z)) (λ z. b (number_is k f e ∙ z)) in
      (ap (λ (x : FrameAnswer). x.whole) is, ap (λ (x : FrameAnswer). x.four) is, ap (λ (x : FrameAnswer). x.body) is)

  pub judge_differs : JudgePromise k f r → r.number ≡ 7
      → (r.body ≡ 0) × (r.whole ≡ (tagged k (take (body_end k.bits f) f)).whole)
      × (r.four ≡ (tagged k (take (body_end k.bits f) f)).four)
  unfolding body_of
  judge_differs e z =
      let c = is_differing k f (sym (number_is k f e) ∙ z) in (
        ap (λ (x : FrameAnswer). x.body) e ∙ c.body,
        ap (λ (x : FrameAnswer). x.whole) e ∙ c.whole,
        ap (λ (x : FrameAnswer). x.four) e ∙ c.four,
      )

-- a frame line, refused for what it is or for its frame
pub frame_line_refused : (k : KeySet) (line : List ℕ) (r : FrameAnswer) → OfLinePromise k line r → (r.number ≡ 0 → ⊥)
    → (r.number ≡ 7 → ⊥) → (r.whole ≡ 0) × (r.four ≡ 0) × (r.body ≡ 0)
unfolding refused_frame
frame_line_refused k line r e a b =
    ⊎_elim (λ z. judge_refused k (decoded line) r (line_read k line r e z) a b) (λ h. zeros (line_faulty k line r e h))
    (none_or_some (decode_number 255 line))
  where
    zeros : {n : ℕ} → r ≡ refused_frame n → (r.whole ≡ 0) × (r.four ≡ 0) × (r.body ≡ 0)
    zeros is = (ap (λ (x : FrameAnswer). x.whole) is, ap (λ (x : FrameAnswer). x.four) is, ap (λ (x : FrameAnswer). x.body) is)

-- opening, by the verdict on the frame
module _ (k : KeySet) (frame o : Bor (List ℕ)) (r : FrameAnswer) (e : JudgePromise k frame.now r) where
  pub open_refused : (r.number ≡ 0 → ⊥) → OpenPromise k frame o → (o.now ≡ []) × (o.ref_ptr ≡ frame.ref_ptr)
  open_refused h p = (p.0 ∙ sym (open_none k frame.now e h), p.1)

  pub opened_frame : r.number ≡ 0 → OpenPromise k frame o
      → (o.now ≡ take (body_end k.bits frame.now) frame.now) × (o.ref_ptr ≡ frame.ref_ptr)
  unfolding body_of
  opened_frame z p = (p.0 ∙ opened_accepted k frame.now (sym (number_is k frame.now e) ∙ z), p.1)

module _ (k : KeySet) (frame table o : Bor (List ℕ)) (r : FrameAnswer) (e : JudgePromise k frame.now r) where
  pub open_or_refused : (r.number ≡ 0 → ⊥) → OpenOrPromise k frame table o → (o.now ≡ table.now) × (o.ref_ptr ≡ table.ref_ptr)
  open_or_refused h p =
      let is = open_or_table k frame.now e table.now frame.ref_ptr table.ref_ptr h in
      (p.0 ∙ sym is.0, p.1 ∙ sym is.1)

  pub opened_frame_or : r.number ≡ 0 → OpenOrPromise k frame table o
      → (o.now ≡ take (body_end k.bits frame.now) frame.now) × (o.ref_ptr ≡ frame.ref_ptr)
  unfolding body_of
  opened_frame_or z p =
      let n = sym (number_is k frame.now e) ∙ z in (
        p.0 ∙ opened_or_accepted k frame.now n table.now,
        p.1 ∙ opened_at_accepted k frame.now n frame.ref_ptr table.ref_ptr,
      )

-- under a key set that the key call answers for K and L
module _ {order size : ℕ} {K L : List ℕ} {made : KeyAnswer} (m : Made order size K L made) where
  abbrev k : KeySet
  k = made.keys

  pub frame_judged : (f : List ℕ) (r : FrameAnswer) → Frame k.bits f → JudgePromise k f r
      → ((r.number ≡ 0) ↔ Genuine k.order k.bits K L f) × Verdict r.number × (r.number ≡ 0 → r.body ≡ body_end k.bits f)
  unfolding body_of tag_of
  frame_judged f r h e =
      let none = framed_none k (length f) (record { set = made_taken m; fits = h.most; some = h.some }) in
      let n : r.number ≡ pick (tag_accepted k f) 0 7 = number_is k f e ∙ (checked k f none).number in
      let right = right_accepted m (take (body_end k.bits f) f) (drop (body_end k.bits f) f) in
      let both = decided (tag_accepted k f) n right.1 right.0 in
      (both.0, both.1, body_is k f e)

  -- a body and its tag behind it
  pub frame_made : (M : List ℕ) (r : FrameAnswer) → 1 ≤ length M → length M + tag_bytes k.bits ≤ 255
      → JudgePromise k (M ++ bytes (TAGGEN k.order k.bits K L M)) r → (r.number ≡ 0) × (r.body ≡ length M)
  frame_made M r some most e =
      let p = k.bits in
      let T = bytes (TAGGEN k.order p K L M) in
      let size : length (M ++ T) ≡ length M + tag_bytes p = length-append M T ∙ omega (arith, taggen_length m M) in
      let end : length M ≡ body_end p (M ++ T) = omega arith in
      let genuine : Genuine k.order p K L (M ++ T) =
      rw (← end, take_at M T (length M) refl, drop_at M T (length M) refl) (taggen_right m M) in
      let j = frame_judged (M ++ T) r (record { some = omega arith; most = omega arith }) e in
      let z = j.0.1 genuine in
      (z, j.2 z ∙ sym end)

-- a refusal is made of a refusal
refused_checked : (n m : ℕ) → (n ≡ 0 → ⊥) → refused_frame n ≡ checked_frame (refused_tag n) m
unfolding refused_frame checked_frame refused_tag
refused_checked n m h = rw (ne_eqb n 0 h)

-- a frame's verdict is made of the check of its tag for its body
module _ (k : KeySet) (f : List ℕ) (h : Frame k.bits f) where
  abbrev fault : ℕ
  fault = message_number k (length (body_of k f)) (length (tag_of k f))

  checked_alike : set_number k ≡ 0 → (frame_number k (length f) ≡ 0) × (fault ≡ 0)
  checked_alike z =
      let set = set_taken k z in
      let b = body_length_is k f in
      let t = tag_length k f (omega (arith, h.some)) in (
        framed_none k (length f) (record { set = set; fits = h.most; some = h.some }),
        tags_none k _ _ (record { set = set; size = t; fits = omega (arith, h.most); some = omega (arith, h.some) }),
      )

  refused_alike : (set_number k ≡ 0 → ⊥) → (set_number k ≡ frame_number k (length f)) × (set_number k ≡ fault)
  unfolding message_number
  refused_alike h = (frame_set k (length f) refl h, fault_found _ refl h)

  judged_is : (r : FrameAnswer) (v : TagAnswer) → JudgePromise k f r
      → VerifyPromise k (take (body_end k.bits f) f) (drop (body_end k.bits f) f) v → r ≡ checked_frame v (body_end k.bits f)
  unfolding body_of tag_of
  judged_is r v e w = ⊎_elim taken refused (none_or_some (set_number k))
    where
      made_of : {c : TagAnswer} → v ≡ c → checked_frame c (body_end k.bits f) ≡ checked_frame v (body_end k.bits f)
      made_of q = ap (λ (x : TagAnswer). checked_frame x (body_end k.bits f)) (sym q)

      taken : set_number k ≡ 0 → r ≡ checked_frame v (body_end k.bits f)
      taken z =
          let none = checked_alike z in
          e ∙ answer_checked k f none.0
          ∙ made_of (w ∙ checking_is fault (tagged k (body_of k f)) k.bits (tag_of k f) none.1)

      refused : (set_number k ≡ 0 → ⊥) → r ≡ checked_frame v (body_end k.bits f)
      refused wrong =
          let n = refused_alike wrong in
          e ∙ sym (answer_refused k f n.0 wrong) ∙ refused_checked (set_number k) (body_end k.bits f) wrong
          ∙ made_of (w ∙ sym (checking_refused fault (tagged k (body_of k f)) k.bits (tag_of k f) n.1 wrong))

  pub judged_verified : (r : FrameAnswer) (v : TagAnswer) → JudgePromise k f r
      → VerifyPromise k (take (body_end k.bits f) f) (drop (body_end k.bits f) f) v
      → (r.number ≡ v.number) × (r.whole ≡ v.whole) × (r.four ≡ v.four)
  unfolding checked_frame
  judged_verified r v e w =
      let is = judged_is r v e w in
      (ap (λ (x : FrameAnswer). x.number) is, ap (λ (x : FrameAnswer). x.whole) is, ap (λ (x : FrameAnswer). x.four) is)
