-- Demand 2 holds.
-- Assumes nothing.
use Rattle.std.specs.Prelude.{◌≡◌, refl, true, ◌↔◌, List, ◌++◌, ℕ, ◌+◌, ◌≤◌, length, take, drop}
use Rattle.std.proofs.Common.{ap, sym, ◌∙◌, arith}
use Rattle.laws.specs.Joined.{joined}
use Rattle.laws.proofs.Fault.{unless_holds}
use Rattle.block.specs.Bits.{bits, bytes}
use Rattle.pcmac.specs.Taggen.{TAGGEN}
use Rattle.pcmac.specs.Tagver.{accepted}
use Rattle.keys.specs.declared.KeyAnswer.{KeyAnswer}
use Rattle.tag.specs.declared.TagAnswer.{TagAnswer}
use Rattle.tag.specs.Answer.{made_tag, checked_tag}
use Rattle.tag.specs.Tag.{tag_bytes}
use Rattle.tag.proofs.Answered.{making_is, slice_is, checking_is}
use Rattle.judge.specs.declared.Stream.{Stream}
use Rattle.stream.specs.Promise.{StartPromise, CheckPromise}
use Rattle.message.specs.Answer.{message_number, tagged, verdict}
use Rattle.message.specs.Promise.{TagPromise, VerifyPromise}
use Rattle.message.proofs.Number.{tags_none}
use Rattle.hex_line.specs.Line.{is_hex, decoded, encoded}
use Rattle.hex_line.proofs.Outcome.{number_rest}
use Rattle.frame.specs.declared.FrameAnswer.{FrameAnswer}
use Rattle.frame.specs.Frame.{body_of}
use Rattle.answer.specs.Promise.{OfLinePromise}
use Rattle.writer.specs.declared.Written.{Written}
use Rattle.writer.specs.Line.{frame_of, line_of, done_write}
use Rattle.writer.specs.Promise.{WritePromise}
use Rattle.writer.proofs.Number.{Fits, writes_none}
use Rattle.writer.proofs.Told.{number_is, is_written}
use Rattle.demands.specs.Numbers.{Verdict}
use Rattle.demands.specs.Terms.{Made, Message, Frame, body_end, Right, line_for, AddedAll}
use Rattle.demands.specs.Two.{Demand2}
use Rattle.demands.proofs.DemandThree.{demand_3}
use Rattle.demands.proofs.Frames as of-frames
use Rattle.demands.proofs.KeySet.{made_meant, made_taken, made_tag_is}
use Rattle.demands.proofs.Lines.{key_line_read, line_judged}
use Rattle.demands.proofs.Numbers.{decided}
use Rattle.demands.proofs.Shore.{shore_and_ship, line_own}
use Rattle.demands.proofs.TagBits.{right_accepted, right_spelt}
use Rattle.demands.proofs.Unsaid.{order_unsaid_holds}

-- a message, under a key set that the key call answers for K and L
module _ {order size : ℕ} {K L M : List ℕ} {made : KeyAnswer} (m : Made order size K L made) (g : Message M) where
  abbrev d : ℕ
  d = made.keys.order

  abbrev p : ℕ
  p = made.keys.bits

  -- it and a slice of a tag's size are no fault
  faultless : (n : ℕ) → n ≡ tag_bytes p → message_number made.keys (length M) n ≡ 0
  faultless n h = tags_none made.keys (length M) n (record { set = made_taken m; size = h; fits = g.most; some = g.some })

  tag_made : (slice after : List ℕ) (r : TagAnswer) → length slice ≡ tag_bytes p → TagPromise made.keys M slice r after
      → (r.number ≡ 0) × (after ≡ bytes (TAGGEN d p K L M))
  unfolding made_tag
  tag_made slice after r h e =
      let none = faultless (length slice) h in
      let t = tagged made.keys M in (
        ap (λ (x : TagAnswer). x.number) (e.0 ∙ making_is _ t none),
        e.1 ∙ slice_is _ t slice none ∙ ap bytes (made_tag_is m M),
      )

  -- what is accepted is what is right
  tag_checked : (received : List ℕ) (r : TagAnswer) → length received ≡ tag_bytes p → VerifyPromise made.keys M received r
      → ((r.number ≡ 0) ↔ Right d p K L M received) × Verdict r.number
  unfolding checked_tag
  tag_checked received r h e =
      let t = tagged made.keys M in
      let right = right_accepted m M received in
      decided (accepted p (bits received) t.tag)
      (ap (λ (x : TagAnswer). x.number) (e ∙ checking_is _ t p received (faultless (length received) h)))
      right.1 right.0

-- by a stream too: its verdict is that of the whole
stream_checked : {order size : ℕ} {K L : List ℕ} (received : List ℕ) (parts : List (List ℕ)) (s t : Stream) {made : KeyAnswer}
    (r : TagAnswer) → Made order size K L made → Message (joined parts) → StartPromise s → AddedAll made.keys s parts t
    → length received ≡ tag_bytes made.keys.bits → CheckPromise made.keys t received r
    → ((r.number ≡ 0) ↔ Right made.keys.order made.keys.bits K L (joined parts) received) × Verdict r.number
stream_checked received parts s t {made} r m g start added h e =
    let whole = verdict made.keys (joined parts) received in
    tag_checked m g received r h
    (demand_3.checked_as_whole made.keys parts s t received r whole g.most start added e refl)

-- a body's line is what the writer's definition says of the key set
line_is : {order size : ℕ} {K L : List ℕ} {made : KeyAnswer} → Made order size K L made → (M : List ℕ)
    → line_of made.keys M ≡ line_for made.keys.order made.keys.bits K L M
unfolding frame_of
line_is m M = ap (λ (T : List ℕ). encoded (M ++ bytes T)) (made_tag_is m M)

-- a line that says a frame is accepted just where it is its body's
line_accepted : {order size : ℕ} {K L : List ℕ} (line : List ℕ) {made : KeyAnswer} (r : FrameAnswer) → Made order size K L made
    → length line ≤ 510 → is_hex line ≡ true → Frame made.keys.bits (decoded line) → OfLinePromise made.keys line r
    → ((r.number ≡ 0)
    ↔ (line ≡ line_for made.keys.order made.keys.bits K L (take (body_end made.keys.bits (decoded line)) (decoded line))))
    × Verdict r.number
unfolding body_of
line_accepted line {made} r m l x h e =
    let read = sym (number_rest 255 line (omega arith) l (unless_holds 9 x)) in
    let own = line_own made.keys line r (made_taken m) h read e in
    let is = line_is m (take (body_end made.keys.bits (decoded line)) (decoded line)) in (
      (λ z. own.0 z ∙ is, λ q. own.1 (q ∙ sym is)),
      (of-frames.frame_judged m (decoded line) r h (line_judged made.keys line r e l x)).1,
    )

-- a body's line, written in a space
line_written : {order size : ℕ} {K L : List ℕ} (M space after : List ℕ) {made : KeyAnswer} (w : Written) → Made order size K L made
    → 1 ≤ length M → length M + tag_bytes made.keys.bits ≤ 255 → 510 ≤ length space → WritePromise made.keys M space w after
    → (w.number ≡ 0)
    × (w.written ≡ length (line_for made.keys.order made.keys.bits K L M))
    × (after
    ≡ line_for made.keys.order made.keys.bits K L M
    ++ drop (length (line_for made.keys.order made.keys.bits K L M)) space)
unfolding done_write
line_written {order} {size} {K} {L} M space after {made} w m some most room e =
    let k = made.keys in
    let fits : Fits k (length M) = record { set = made_taken m; some = some; most = most } in
    let none = number_is k M space e ∙ writes_none k (length space) (length M) room fits in
    let t = is_written k M space e none in
    let line = line_is m M in (
      none,
      ap (λ (x : Written). x.written) t.answer ∙ ap length line,
      t.laid ∙ ap (λ (x : List ℕ). x ++ drop (length x) space) line,
    )

-- DEMAND 2
pub demand_2 : Demand2
demand_2 = record {
  meant = λ order size K L made m. made_meant m;
  order_unsaid = order_unsaid_holds;
  key_line_read = key_line_read;
  tag_made = λ order size K L M slice after made r m g h e. tag_made m g slice after r h e;
  tag_checked = λ order size K L M received made r m g h e. tag_checked m g received r h e;
  stream_checked =
      λ order size K L received parts s t made r m g start added h e. stream_checked received parts s t r m g start added h e;
  one_spelling = λ order size K L M received made m h n. right_spelt m M received (λ j. record { fits = h j }) n;
  frame_judged = λ order size K L f made r m h e. of-frames.frame_judged m f r h e;
  frame_made = λ order size K L M made r m h l e. of-frames.frame_made m M r h l e;
  line_judged = λ k line r l x e. line_judged k line r e l x;
  line_accepted = λ order size K L line made r m l x h e. line_accepted line r m l x h e;
  opened = of-frames.opened_frame;
  opened_or_is = of-frames.opened_frame_or;
  opened_or_kept = of-frames.opened_frame_or;
  line_written = λ order size K L M space after made w m some most room p. line_written M space after w m some most room p;
  shore_and_ship = shore_and_ship;
}
