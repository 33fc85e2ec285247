-- Wrong outcomes that the promises do not permit.
-- Assumes nothing.
use Rattle.std.proofs.Common.{◌≡◌, refl, ap, sym, ◌∙◌, false, List, ◌∷◌, ◌++◌, ℕ, ◌+◌, ◌-◌, ◌*◌, ◌≤◌, ◌<◌, arith, length, get_or, drop}
use Rattle.std.proofs.Common.{replicate, length-drop, get_or-drop}
use Rattle.std.proofs.Math.ListN.{get_or-replicate}
use Rattle.std.proofs.Math.Seq.{get_or_at}
use Rattle.block.specs.Bits.{bits}
use Rattle.block.specs.Block.{sixteen}
use Rattle.block.proofs.Sixteen.{sixteen_at}
use Rattle.chain.specs.Walk.{Step}
use Rattle.chain.specs.Stream.{settled, add}
use Rattle.pcmac.specs.Taggen.{step_of, sealed}
use Rattle.pcmac.proofs.Tagver.{accepted_equal, spare_set}
use Rattle.keys.specs.declared.KeySet.{KeySet}
use Rattle.keys.specs.KeysIn.{keys_in}
use Rattle.keys.specs.SetNumber.{set_number}
use Rattle.tag.specs.declared.TagAnswer.{TagAnswer}
use Rattle.tag.specs.Tag.{tag_bytes}
use Rattle.tag.proofs.Answered.{making_number}
use Rattle.tag.proofs.Tagged.{cut_within}
use Rattle.tag.proofs.Told.{making_leaves, checked_fault, checked_accepted}
use Rattle.judge.specs.declared.Stream.{Stream}
use Rattle.judge.specs.Stream.{formed, held_of, view_of, stream_of}
use Rattle.judge.proofs.Held.{Fine, held_count}
use Rattle.judge.proofs.Zeros.{zeros_are}
use Rattle.stream.specs.declared.Added.{Added}
use Rattle.stream.specs.Answer.{added_to, close_number, closed}
use Rattle.stream.specs.Promise.{StartPromise, AddPromise, ClosePromise, CheckPromise}
use Rattle.stream.proofs.Adding.{added_total, added_room}
use Rattle.stream.proofs.Number.{adds, adds_unformed, add_refused, added_by, add_number_is, closes, other_slice}

-- a stream that begins with bytes
pub starts_with_bytes : (r : Stream) → StartPromise r → 1 ≤ r.total + r.count → ⊥
starts_with_bytes r e h =
    let t = ap (λ (s : Stream). s.total) e in
    let n = ap (λ (s : Stream). s.count) e in
    omega arith

-- or with steps taken
pub starts_chained : (r : Stream) → StartPromise r → 1 ≤ r.whole + r.four → ⊥
starts_chained r e h =
    let w = ap (λ (s : Stream). s.whole) e in
    let f = ap (λ (s : Stream). s.four) e in
    omega arith

-- an adding call that hands its stream back untouched, and says that it is done
pub stream_untouched : (k : KeySet) (s : Stream) (p : List ℕ) → 1 ≤ length p → AddPromise k s p (record { number = 0; stream = s }) → ⊥
stream_untouched k s p h e =
    let is = (added_by k s p _ e (add_number_is k s p _ e refl)).1 in
    let t = ap (λ (x : Stream). x.total) is ∙ added_total k.order _ s p in
    omega arith

-- with a part behind the held bytes its first byte stands where an unused one stood, which is zero
module _ {d : ℕ} {s : Stream} (fine : Fine d s) where
  held_byte : (b : ℕ) (p : List ℕ) → s.count < 16 → get_or (sixteen (held_of s ++ b ∷ p)) s.count 0 ≡ b
  held_byte b p h =
      sixteen_at (held_of s ++ b ∷ p) s.count h ∙ get_or_at (held_of s) b p 0 s.count (held_count fine)

  unused_byte : s.count < 16 → get_or s.held s.count 0 ≡ 0
  unused_byte h =
      let n : length (drop s.count s.held) ≡ 16 - s.count = length-drop s.count s.held ∙ omega (arith, fine.size) in
      let z = zeros_are (drop s.count s.held) fine.form.most.rest in
      let e : s.count + 0 ≡ s.count = omega arith in
      ap (λ (i : ℕ). get_or s.held i 0) (sym e) ∙ sym (get_or-drop s.count s.held 0 0) ∙ ap (λ (l : List ℕ). get_or l 0 0) z
      ∙ get_or-replicate (length (drop s.count s.held)) 0 0 0 (omega arith)

-- one that chains what came before and now only raises the total and the held count: here a part whose first byte is not zero, which the
-- stream has room for
pub only_totals_raised : (k : KeySet) (s : Stream) (b : ℕ) (p : List ℕ) → (b ≡ 0 → ⊥) → s.count + length (b ∷ p) ≤ 16
    → length s.held ≡ 16
    → AddPromise k s (b ∷ p)
    (record {
      number = 0;
      stream = record {
        total = s.total + length (b ∷ p);
        value = s.value;
        held = s.held;
        count = s.count + length (b ∷ p);
        whole = s.whole;
        four = s.four;
      };
    })
    → ⊥
only_totals_raised k s b p nz room size e =
    let below : s.count < 16 = omega arith in
    let f = (adds k s (length (b ∷ p)) (add_number_is k s (b ∷ p) _ e refl)).form in
    let fine : Fine k.order s = record { form = f; size = size } in
    let is = (added_by k s (b ∷ p) _ e (add_number_is k s (b ∷ p) _ e refl)).1 in
    let now : get_or s.held s.count 0 ≡ b =
    ap (λ (x : Stream). get_or x.held s.count 0) (is ∙ sym (added_room k.order _ s (b ∷ p) fine _ room refl))
    ∙ held_byte fine b p below in
    nz (sym now ∙ unused_byte fine below)

-- what is held after a part is the end of what was held and the part
added_held : (d : ℕ) (f : Step) (s : Stream) (p : List ℕ) (i : ℕ) → i < 16
    → get_or (added_to d f s p).held i 0 ≡ get_or (held_of s ++ p) (16 * settled (length (held_of s ++ p)) + i) 0
unfolding added_to stream_of view_of add
added_held d f s p i h =
    let n = 16 * settled (length (held_of s ++ p)) in
    sixteen_at (drop n (held_of s ++ p)) i h ∙ get_or-drop n (held_of s ++ p) i 0

module _ (k : KeySet) (s : Stream) (p : List ℕ) (a : Added) (e : AddPromise k s p a) where
  -- so a byte of these is not lost, and none stands in the place of another
  pub held_byte_lost : a.number ≡ 0 → (i : ℕ) → i < 16
      → (get_or a.stream.held i 0 ≡ get_or (held_of s ++ p) (16 * settled (length (held_of s ++ p)) + i) 0 → ⊥) → ⊥
  held_byte_lost z i h w =
      let is = (added_by k s p a e (add_number_is k s p a e z)).1 in
      w (ap (λ (x : Stream). get_or x.held i 0) is ∙ added_held k.order (step_of (keys_in k)) s p i h)

  -- a part that is too long, refused before a stream that is not well formed
  pub length_before_form : set_number k ≡ 0 → formed k.order s ≡ false → a.number ≡ 5 → ⊥
  length_before_form set h z =
      let is = e ∙ sym (add_refused k s p (adds_unformed k s (length p) (sym set) h) (λ q. omega arith)) in
      let n : a.number ≡ 4 = ap (λ (x : Added). x.number) is in
      omega arith

module _ (k : KeySet) (s : Stream) (slice : List ℕ) (r : TagAnswer) (after : List ℕ) (e : ClosePromise k s slice r after) where
  close_number_is : r.number ≡ close_number k s (length slice)
  close_number_is = ap (λ (x : TagAnswer). x.number) e.0 ∙ making_number (close_number k s (length slice)) (closed k s)

  -- a stream of no bytes that is closed
  pub empty_stream_closed : s.total ≡ 0 → r.number ≡ 0 → ⊥
  empty_stream_closed h z = omega (arith, (closes k s (length slice) (sym close_number_is ∙ z)).some)

  -- a slice of another size that is taken
  pub other_size_closed : (length slice ≡ tag_bytes k.bits → ⊥) → r.number ≡ 0 → ⊥
  other_size_closed h z = h (closes k s (length slice) (sym close_number_is ∙ z)).size

  -- a stream that is not well formed, refused before it
  pub form_before_size : set_number k ≡ 0 → (length slice ≡ tag_bytes k.bits → ⊥) → r.number ≡ 4 → ⊥
  form_before_size set h z = omega (arith, close_number_is, other_slice k s (length slice) (sym set) h)

  -- a refusal that writes the slice
  pub refusal_writes_closing : (r.number ≡ 0 → ⊥) → (after ≡ slice → ⊥) → ⊥
  refusal_writes_closing h w = w (making_leaves (close_number k s (length slice)) (closed k s) slice after r e.0 e.1 h).0

-- a check that takes the tag length from the received tag, and so accepts a shorter one, or a longer
pub other_size_checked : (k : KeySet) (s : Stream) (received : List ℕ) (r : TagAnswer) → (length received ≡ tag_bytes k.bits → ⊥)
    → CheckPromise k s received r → r.number ≡ 0 → ⊥
other_size_checked k s received r h e z =
    h (closes k s (length received) (checked_fault _ k.bits received (closed k s) r e z)).size

-- a check that accepts other bits than the tag's: fewer of them compared, as many as the order is, or from the second byte on
pub other_tag_checked : (k : KeySet) (s : Stream) (received : List ℕ) (r : TagAnswer)
    → (bits received ≡ (closed k s).tag ++ replicate (length (bits received) - k.bits) 0 → ⊥) → CheckPromise k s received r → r.number ≡ 0
    → ⊥
other_tag_checked k s received r h e z =
    h (accepted_equal k.bits (bits received) (closed k s).tag (checked_accepted _ k.bits received (closed k s) r e z))

-- or a tag of which a spare bit is set: one of them, or all
pub spare_bit_checked : (k : KeySet) (s : Stream) (received : List ℕ) (r : TagAnswer) (i : ℕ) → k.bits ≤ i → get_or (bits received) i 0 ≡ 1
    → CheckPromise k s received r → r.number ≡ 0 → ⊥
unfolding closed sealed
spare_bit_checked k s received r i h one e z =
    let t = checked_accepted _ k.bits received (closed k s) r e z in
    spare_set k.bits (bits received) (closed k s).tag t (cut_within k.bits _) i h one
