-- Wrong outcomes that the promises do not permit.
-- Assumes nothing.
use Rattle.std.proofs.Common.{◌≡◌, refl, ap, sym, ◌∙◌, ⊎_elim, Bool, true, false, List, [], ℕ, ◌+◌, ◌≤◌, ◌<◌, arith, length, get_or}
use denote.Ref.{Bor}
use Rattle.laws.proofs.Cases.{none_or_some}
use Rattle.laws.specs.Pick.{pick}
use Rattle.block.specs.Bits.{bits}
use Rattle.pcmac.specs.Taggen.{taggen, sealed}
use Rattle.pcmac.proofs.Tagver.{spare_set}
use Rattle.keys.specs.declared.KeySet.{KeySet}
use Rattle.keys.specs.SetNumber.{set_number}
use Rattle.keys.proofs.SetNumber.{set_order}
use Rattle.tag.specs.Tag.{tag_bytes}
use Rattle.tag.proofs.Tagged.{cut_within}
use Rattle.message.specs.Answer.{tagged}
use Rattle.frame.specs.declared.FrameAnswer.{FrameAnswer}
use Rattle.frame.specs.Frame.{body_length, body_of, tag_of, frame_number, refused_frame, frame_answer}
use Rattle.frame.specs.Promise.{RefusedPromise, JudgePromise, OpenPromise, OpenOrPromise}
use Rattle.frame.proofs.Number.{frame_set, frame_none, framed}
use Rattle.frame.proofs.Made.{body_length_is}
use Rattle.frame.proofs.Verdict.{tag_accepted, faulty, checked, is_accepted, is_differing, differing_is}
use Rattle.frame.proofs.Opened.{number_is, body_is}
use Rattle.frame.proofs.Opened.{opened_accepted, opened_or_accepted, opened_at_accepted, opened_refused, opened_at_refused}

-- a refusal
module _ (number : ℕ) (r : FrameAnswer) (e : RefusedPromise number r) where
  -- that carries 0 for its number
  pub frame_refused_as_done : (number ≡ 0 → ⊥) → r.number ≡ 0 → ⊥
  unfolding refused_frame
  frame_refused_as_done h z = h (sym (ap (λ (a : FrameAnswer). a.number) e) ∙ z)

  -- that counts a step, or has a body
  pub frame_refused_with_counts : 1 ≤ r.whole + r.four + r.body → ⊥
  unfolding refused_frame
  frame_refused_with_counts h =
      let w = ap (λ (a : FrameAnswer). a.whole) e in
      let f = ap (λ (a : FrameAnswer). a.four) e in
      let b = ap (λ (a : FrameAnswer). a.body) e in
      omega arith

-- judging
module _ (k : KeySet) (f : List ℕ) (r : FrameAnswer) (p : JudgePromise k f r) where
  -- a fault of the key set is answered before any other
  set_first : {n : ℕ} → n ≡ set_number k → (n ≡ 0 → ⊥) → r.number ≡ n
  set_first {n} e h =
      let q : n ≡ frame_number k (length f) = frame_set k (length f) e h in
      number_is k f p ∙ (faulty k f (λ z. h (q ∙ z))).number ∙ sym q

  -- the length's fault before the key set's, of its order or of its tag length
  pub length_first : {n : ℕ} → n ≡ set_number k → 1 ≤ n → n ≤ 2 → r.number ≡ 8 → ⊥
  length_first e l m z = let q = set_first e (λ y. omega arith) in omega arith

  -- the tag length's fault before the order's
  pub tag_length_first : k.order ≡ 0 → r.number ≡ 2 → ⊥
  tag_length_first e n = let q = set_first (set_order k (rw e)) (λ z. omega arith) in omega arith

  -- accepted, although the tag is not that of the body
  pub differing_accepted : tag_accepted k f ≡ false → r.number ≡ 0 → ⊥
  differing_accepted t z =
      let n = sym (number_is k f p) ∙ z in
      let m = differing_is k f (is_accepted k f n).none t in
      omega arith

  -- or although a spare bit of the tag is set: one of them, or all
  pub spare_bit_judged : (i : ℕ) → k.bits ≤ i → get_or (bits (tag_of k f)) i 0 ≡ 1 → r.number ≡ 0 → ⊥
  unfolding tagged taggen sealed
  spare_bit_judged i h one z =
      let t = (is_accepted k f (sym (number_is k f p) ∙ z)).tag in
      spare_set k.bits (bits (tag_of k f)) (tagged k (body_of k f)).tag t (cut_within k.bits _) i h one

  -- a body that has the tag's first byte too, or all of them, or is another
  pub tag_byte_in_the_body : r.number ≡ 0 → (r.body ≡ body_length k f → ⊥) → ⊥
  tag_byte_in_the_body z w = w (body_is k f p z)

  -- a frame of 255 bytes or fewer that is refused for its length, although it has a body byte before its tag
  pub frame_refused_for_length : set_number k ≡ 0 → length f ≤ 255 → tag_bytes k.bits < length f → r.number ≡ 8 → ⊥
  frame_refused_for_length s h l z =
      let c = checked k f (sym (frame_none k (length f) refl s h l)) in
      by (tag_accepted k f) c.number
    where
      by : (t : Bool) → (frame_answer k f).number ≡ pick t 0 7 → ⊥
      by true e = omega (arith, number_is k f p)
      by false e = omega (arith, number_is k f p)

-- the counts of a tag are not both 0: it takes the closing step
tagged_some : (k : KeySet) (M : List ℕ) → 1 ≤ (tagged k M).whole
unfolding tagged taggen sealed
tagged_some k M = omega arith

-- a frame whose tag differs, and no counts
pub seven_without_counts : (k : KeySet) (f : List ℕ) (r : FrameAnswer) → JudgePromise k f r → r.number ≡ 7 → r.whole ≡ 0 → ⊥
seven_without_counts k f r p z n =
    let c = is_differing k f (sym (number_is k f p) ∙ z) in
    let w = ap (λ (a : FrameAnswer). a.whole) p ∙ c.whole in
    omega (arith, tagged_some k (body_of k f))

-- opening
module _ (k : KeySet) (frame r : Bor (List ℕ)) (p : OpenPromise k frame r) where
  opened_length : (frame_answer k frame.now).number ≡ 0 → length r.now ≡ body_length k frame.now
  opened_length z = ap length (p.0 ∙ opened_accepted k frame.now z) ∙ body_length_is k frame.now

  -- no bytes, always: also of an accepted frame
  pub always_nothing : (frame_answer k frame.now).number ≡ 0 → r.now ≡ [] → ⊥
  always_nothing z e =
      let n = opened_length z in
      let m = ap length e in
      omega (arith, (framed k (length frame.now) (is_accepted k frame.now z).none).some)

  -- the body with the tag's first byte
  pub tag_byte_opened : (frame_answer k frame.now).number ≡ 0 → length r.now ≡ body_length k frame.now + 1 → ⊥
  tag_byte_opened z e = let n = opened_length z in omega arith

  -- a refused frame, opened whole or in part
  pub refused_opened : ((frame_answer k frame.now).number ≡ 0 → ⊥) → 1 ≤ length r.now → ⊥
  refused_opened h e = let n = ap length (p.0 ∙ opened_refused k frame.now h) in omega arith

  -- bytes that lie elsewhere, as a copy does
  pub opened_elsewhere : (r.ref_ptr ≡ frame.ref_ptr → ⊥) → ⊥
  opened_elsewhere h = h p.1

-- opening, or the table in force
module _ (k : KeySet) (frame table r : Bor (List ℕ)) (p : OpenOrPromise k frame table r) where
  -- no bytes, where the frame is accepted
  pub replaced_by_nothing : (frame_answer k frame.now).number ≡ 0 → r.now ≡ [] → ⊥
  replaced_by_nothing z e =
      let n = ap length (sym e ∙ p.0 ∙ opened_or_accepted k frame.now z table.now) ∙ body_length_is k frame.now in
      omega (arith, (framed k (length frame.now) (is_accepted k frame.now z).none).some)

  -- the old table, always: also where the frame is accepted
  pub always_the_table : (frame.ref_ptr ≡ table.ref_ptr → ⊥) → (frame_answer k frame.now).number ≡ 0 → r.ref_ptr ≡ table.ref_ptr → ⊥
  always_the_table h z e = h (sym (opened_at_accepted k frame.now z frame.ref_ptr table.ref_ptr) ∙ sym p.1 ∙ e)

  -- a refused frame in the table's place
  pub always_the_frame : (frame.ref_ptr ≡ table.ref_ptr → ⊥) → ((frame_answer k frame.now).number ≡ 0 → ⊥) → r.ref_ptr ≡ frame.ref_ptr → ⊥
  always_the_frame h z e = h (sym e ∙ p.1 ∙ opened_at_refused k frame.now z frame.ref_ptr table.ref_ptr)

  -- bytes that lie elsewhere, as a copy does
  pub kept_elsewhere : (r.ref_ptr ≡ frame.ref_ptr → ⊥) → (r.ref_ptr ≡ table.ref_ptr → ⊥) → ⊥
  kept_elsewhere a b =
      ⊎_elim (λ z. a (p.1 ∙ opened_at_accepted k frame.now z frame.ref_ptr table.ref_ptr))
      (λ h. b (p.1 ∙ opened_at_refused k frame.now h frame.ref_ptr table.ref_ptr)) (none_or_some (frame_answer k frame.now).number)
