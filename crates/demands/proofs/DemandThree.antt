-- Demand 3 holds.
-- Assumes nothing.
use Rattle.std.specs.Prelude.{◌≡◌, refl, List, ◌++◌, ℕ, ◌+◌, ◌≤◌, eqb, length, take, drop}
use Rattle.std.proofs.Common.{ap, sym, ◌∙◌, ⊎_elim, zero-add, arith, length-take}
use Rattle.laws.specs.Joined.{joined}
use Rattle.laws.specs.Up.{up}
use Rattle.laws.specs.UpTo.{up_to}
use Rattle.laws.proofs.Fault.{unless_most, fault_most, none_most}
use Rattle.block.specs.Bits.{bytes}
use Rattle.block.specs.Block.{blocks}
use Rattle.chain.specs.Stream.{settled}
use Rattle.chain.proofs.Count.{bounded, closed}
use Rattle.chain.proofs.View.{view_counts}
use Rattle.pcmac.specs.Taggen.{keys_of, step_of, chained, sealed}
use Rattle.keys.specs.declared.KeyAnswer.{KeyAnswer}
use Rattle.keys.specs.declared.KeySet.{KeySet}
use Rattle.keys.specs.KeysIn.{keys_in}
use Rattle.keys.specs.SetNumber.{bits_number, set_number}
use Rattle.tag.specs.declared.TagAnswer.{TagAnswer}
use Rattle.tag.specs.Answer.{made_tag, checked_tag}
use Rattle.tag.specs.Fault.{size_number}
use Rattle.tag.specs.Tag.{tag_bytes}
use Rattle.tag.proofs.Answered.{making_is, slice_is, making_number, checking_is, making_same, slice_same, checking_same}
use Rattle.judge.specs.declared.Stream.{Stream}
use Rattle.judge.specs.Stream.{started, formed, held_of, view_of, stream_of}
use Rattle.judge.specs.Fault.{stream_number, empty_number}
use Rattle.judge.proofs.Total.{total}
use Rattle.stream.specs.declared.Added.{Added}
use Rattle.stream.specs.Answer.{closed as closed-stream}
use Rattle.stream.specs.Answer.{add_number, added_to, close_number}
use Rattle.stream.specs.Promise.{StartPromise, AddPromise, ClosePromise, CheckPromise}
use Rattle.stream.proofs.Number.{Adds, adds, adds_none}
use Rattle.stream.proofs.Adding.{added_total}
use Rattle.judge.proofs.Held.{Fine}
use Rattle.message.specs.Answer.{message_number, tagged, tag_answer, tag_slice, verdict}
use Rattle.message.specs.Promise.{TagPromise, VerifyPromise}
use Rattle.message.proofs.Number.{tags_none}
use Rattle.hex_line.specs.Line.{encoded}
use Rattle.frame.specs.declared.FrameAnswer.{FrameAnswer}
use Rattle.frame.specs.Promise.{JudgePromise}
use Rattle.writer.specs.declared.Written.{Written}
use Rattle.writer.specs.Line.{frame_of, done_write}
use Rattle.writer.specs.Promise.{WritePromise}
use Rattle.writer.proofs.Told.{is_written}
use Rattle.session.proofs.Cutting.{check_in_parts, send_in_parts}
use Rattle.demands.specs.Numbers.{Verdict}
use Rattle.demands.specs.Terms.{Made, Frame, body_end, AddedAll}
use Rattle.demands.specs.Three.{Demand3}
use Rattle.demands.proofs.Frames.{judged_verified}
use Rattle.demands.proofs.KeySet.{made_taken}
use Rattle.demands.proofs.Numbers.{checking_by}
use Rattle.laws.proofs.Cases.{none_or_some}
use Rattle.demands.proofs.When.{no_fault}
use Rattle.demands.proofs.Cutting.{fine_added}
use Rattle.demands.proofs.Whole.{fine_start, parts_added, parts_alike}
use Rattle.stream.proofs.Number.{added_by, refused_by}

-- the counts of a stream that has taken a message from the start
counts_are : (k : KeySet) (K L M : List ℕ) (t : Stream) → t ≡ added_to k.order (step_of (keys_in k)) started M
    → (t.whole ≡ (chained (keys_of k.order K L) k.order M).whole) × (t.four ≡ (chained (keys_of k.order K L) k.order M).four)
unfolding added_to stream_of view_of chained settled blocks
counts_are k K L M t e =
    let v = view_counts k.order (step_of (keys_in k)) M in
    let w = closed k.order (step_of (keys_of k.order K L)) M in (
      ap (λ (x : Stream). x.whole) e ∙ v.whole_is ∙ sym w.whole_is,
      ap (λ (x : Stream). x.four) e ∙ v.four_is ∙ sym w.four_is,
    )

-- a stream that has taken parts from the start, under a key set that the key call answers: it has taken the message that they make, and
-- is well formed
module _ (order size : ℕ) (K L : List ℕ) (parts : List (List ℕ)) (s t : Stream) (made : KeyAnswer) (m : Made order size K L made)
    (fits : length (joined parts) ≤ 1048576) (e : StartPromise s) (all : AddedAll made.keys s parts t) where
  room : 0 + length (joined parts) ≤ 1048576
  room = rw zero-add fits

  taken_all : t ≡ added_to made.keys.order (step_of (keys_in made.keys)) started (joined parts)
  taken_all = parts_added made.keys started parts t (made_taken m) (fine_start made.keys.order) room (rw e at all)

  total_all : t.total ≡ length (joined parts)
  total_all =
      ap (λ (x : Stream). x.total) taken_all
      ∙ added_total made.keys.order (step_of (keys_in made.keys)) started (joined parts) ∙ zero-add (length (joined parts))

  fine_all : Fine made.keys.order t
  fine_all =
      rw taken_all (fine_added (fine_start made.keys.order) (step_of (keys_in made.keys)) (joined parts) room)

-- one part more is answered 0
part_added : (order size : ℕ) (K L : List ℕ) (parts : List (List ℕ)) (part : List ℕ) (s t : Stream) (a : Added) (made : KeyAnswer)
    → Made order size K L made → length (joined parts) + length part ≤ 1048576 → StartPromise s → AddedAll made.keys s parts t
    → AddPromise made.keys t part a → a.number ≡ 0
part_added order size K L parts part s t a made m fits e all p =
    let few : length (joined parts) ≤ 1048576 = omega arith in
    let n = total_all order size K L parts s t made m few e all in
    let fine = fine_all order size K L parts s t made m few e all in
    (added_by made.keys t part a p
    (adds_none made.keys t (length part) (record { set = made_taken m; form = fine.form; fits = omega arith }))).0

counts_made : (order size : ℕ) (K L : List ℕ) (parts : List (List ℕ)) (s t : Stream) (made : KeyAnswer) → Made order size K L made
    → length (joined parts) ≤ 1048576 → StartPromise s → AddedAll made.keys s parts t
    → (t.whole ≡ (chained (keys_of made.keys.order K L) made.keys.order (joined parts)).whole)
    × (t.four ≡ (chained (keys_of made.keys.order K L) made.keys.order (joined parts)).four)
counts_made order size K L parts s t made m fits e all =
    counts_are made.keys K L (joined parts) t (taken_all order size K L parts s t made m fits e all)

-- a stream closed has one whole-cipher step more
closed_adds : (k : KeySet) (s : Stream) → ((closed-stream k s).whole ≡ s.whole + 1) × ((closed-stream k s).four ≡ s.four)
unfolding closed-stream sealed
closed_adds k s = (refl, refl)

-- the bound, of what is added
bound_added : (k : KeySet) (s : Stream) (p : List ℕ) → Adds k s (length p)
    → ((added_to k.order (step_of (keys_in k)) s p).whole + (added_to k.order (step_of (keys_in k)) s p).four
    ≤ s.whole + s.four + up (length p) 16)
    × ((added_to k.order (step_of (keys_in k)) s p).whole ≤ s.whole + up (up (length p) 16) (k.order + 1))
unfolding added_to stream_of view_of
bound_added k s p a =
    let most : length (held_of s) ≤ 16 =
    rw length-take (omega (arith, a.form.most.count, (total s.total).held_most)) in
    let b = bounded k.order (step_of (keys_in k)) (view_of s) p most in
    (b.steps_most, b.wholes_most)

-- done or refused
bound_of : (k : KeySet) (s : Stream) (p : List ℕ) (a : Added) → AddPromise k s p a
    → (a.stream.whole + a.stream.four ≤ s.whole + s.four + up (length p) 16)
    × (a.stream.whole ≤ s.whole + up (up (length p) 16) (k.order + 1))
bound_of k s p a e =
    ⊎_elim (λ z. rw (added_by k s p a e z).1 (bound_added k s p (adds k s (length p) z)))
    (λ h. rw (refused_by k s p a e h).1 (omega arith, omega arith)) (none_or_some (add_number k s (length p)))

-- closing's own numbers are 6 and below, so that 7 says that the tag was compared
close_most : (k : KeySet) (s : Stream) (n : ℕ) → close_number k s n ≤ 6
unfolding close_number set_number bits_number size_number stream_number empty_number
close_most k s n =
    fault_most 6 _ _
    (fault_most 6 _ _ (omega (arith, unless_most (up_to 5 k.order) 1))
    (fault_most 6 _ _ (omega (arith, unless_most (up_to 128 k.bits) 2)) (none_most 6)))
    (fault_most 6 _ _ (omega (arith, unless_most (eqb n (tag_bytes k.bits)) 3))
    (fault_most 6 _ _ (omega (arith, unless_most (formed k.order s) 4))
    (fault_most 6 _ _ (unless_most _ 6) (none_most 6))))

checking_some : (k : KeySet) (s : Stream) (l : List ℕ) (r : TagAnswer) → CheckPromise k s l r → Verdict r.number
    → close_number k s (length l) ≡ 0
checking_some k s l r e v =
    let n = close_number k s (length l) in
    let by = checking_by n k.bits l (closed-stream k s) e in
    ⊎_elim (no_fault by)
    (λ q. ⊎_elim (λ z. z) (λ h. absurd (omega (arith, by.some h, q, close_most k s (length l)))) (none_or_some n)) v

-- start, any parts, and then checking: the verdict of the one call on the message that they make
checked_parts : (k : KeySet) (ps : List (List ℕ)) (s t : Stream) (l : List ℕ) (r r' : TagAnswer) → length (joined ps) ≤ 1048576
    → StartPromise s → AddedAll k s ps t → CheckPromise k t l r → VerifyPromise k (joined ps) l r' → r ≡ r'
checked_parts k ps s t l r r' fits e all c w =
    let a = parts_alike k ps s t (length l) e fits all in
    c ∙ checking_same a.number a.tag k.bits l ∙ sym w

-- and where they are the body of a frame, that on the frame
judged_parts : (k : KeySet) (f : List ℕ) (ps : List (List ℕ)) (s t : Stream) (r : FrameAnswer) (r' : TagAnswer) → Frame k.bits f
    → joined ps ≡ take (body_end k.bits f) f → StartPromise s → AddedAll k s ps t → JudgePromise k f r
    → CheckPromise k t (drop (body_end k.bits f) f) r'
    → (r.number ≡ r'.number) × (r.whole ≡ r'.whole) × (r.four ≡ r'.four)
judged_parts k f ps s t r r' h q e all j c =
    let n = body_end k.bits f in
    let fits : length (joined ps) ≤ 1048576 = rw (q, length-take) (omega (arith, h.most)) in
    let is = checked_parts k ps s t (drop n f) r' (verdict k (joined ps) (drop n f)) fits e all c refl in
    judged_verified k f h r r' j (is ∙ ap (λ (M : List ℕ). verdict k M (drop n f)) q)

-- start, any parts, and then closing: the outcome of the one call on the message that they make
closed_parts : (k : KeySet) (ps : List (List ℕ)) (s t : Stream) (l after after' : List ℕ) (r r' : TagAnswer)
    → length (joined ps) ≤ 1048576 → StartPromise s → AddedAll k s ps t → ClosePromise k t l r after → TagPromise k (joined ps) l r' after'
    → (r ≡ r') × (after ≡ after')
closed_parts k ps s t l after after' r r' fits e all c w =
    let a = parts_alike k ps s t (length l) e fits all in
    (c.0 ∙ making_same a.number a.tag ∙ sym w.0, c.1 ∙ slice_same a.number a.tag l ∙ sym w.1)

-- and where they are a body, the tag and the counts of its line
written_parts : (k : KeySet) (body space after slice tag : List ℕ) (ps : List (List ℕ)) (s t : Stream) (w : Written) (r : TagAnswer)
    → joined ps ≡ body → StartPromise s → AddedAll k s ps t → length slice ≡ tag_bytes k.bits → ClosePromise k t slice r tag
    → WritePromise k body space w after → w.number ≡ 0
    → (r.number ≡ 0) × (take w.written after ≡ encoded (body ++ tag)) × (w.whole ≡ r.whole) × (w.four ≡ r.four)
unfolding done_write frame_of made_tag
written_parts k body space after slice tag ps s t w r q e all size c p z =
    let v = is_written k body space p z in
    let M = joined ps in
    let fits : length M ≤ 1048576 = rw q (omega (arith, v.fits.most)) in
    let some : 1 ≤ length M = rw q v.fits.some in
    let none = tags_none k (length M) (length slice) (record { set = v.fits.set; size = size; fits = fits; some = some }) in
    let is = closed_parts k ps s t slice tag (tag_slice k M slice) r (tag_answer k M (length slice)) fits e all c (refl, refl) in
    let made : r ≡ made_tag (tagged k body) =
    is.0 ∙ making_is (message_number k (length M) (length slice)) (tagged k M) none ∙ ap (λ (x : List ℕ). made_tag (tagged k x)) q in
    let bytes_are : tag ≡ bytes (tagged k body).tag =
    is.1 ∙ slice_is (message_number k (length M) (length slice)) (tagged k M) slice none
    ∙ ap (λ (x : List ℕ). bytes (tagged k x).tag) q in (
      ap (λ (x : TagAnswer). x.number) made,
      v.line ∙ ap (λ (x : List ℕ). encoded (body ++ x)) (sym bytes_are),
      ap (λ (x : Written). x.whole) v.answer ∙ ap (λ (x : TagAnswer). x.whole) (sym made),
      ap (λ (x : Written). x.four) v.answer ∙ ap (λ (x : TagAnswer). x.four) (sym made),
    )

-- DEMAND 3
pub demand_3 : Demand3
unfolding made_tag checked_tag
demand_3 = record {
  closed_as_whole = closed_parts;
  checked_as_whole = checked_parts;
  judged_as_parts = judged_parts;
  part_done = part_added;
  totals = total_all;
  counts = counts_made;
  closing_adds =
      λ k s l after r c z.
      let n = close_number k s (length l) in
      let none = sym (making_number n (closed-stream k s)) ∙ ap (λ (x : TagAnswer). x.number) (sym c.0) ∙ z in
      let is = c.0 ∙ making_is n (closed-stream k s) none in
      (ap (λ (x : TagAnswer). x.whole) is ∙ (closed_adds k s).0, ap (λ (x : TagAnswer). x.four) is ∙ (closed_adds k s).1);
  checking_adds =
      λ k s l r c z.
      let n = close_number k s (length l) in
      let is = c ∙ checking_is n (closed-stream k s) k.bits l (checking_some k s l r c z) in
      (ap (λ (x : TagAnswer). x.whole) is ∙ (closed_adds k s).0, ap (λ (x : TagAnswer). x.four) is ∙ (closed_adds k s).1);
  bound = bound_of;
  written_as_parts = written_parts;
  checked_in_parts = check_in_parts;
  sent_in_parts = send_in_parts;
}
