-- DEMAND 2. Under every key set that the key call answers for K and L, the tag made is TAGGEN's, and a received tag is accepted exactly
-- when TAGVER gives 1 for its first p bits and its spare bits are zero, and otherwise refused with 7: by a call on the whole message and
-- on a stream. A frame and a frame line are accepted by the same rule, and an accepted one yields its own body. The writer's line has
-- the body and TAGGEN's tag. The definitions are those of NEC's specification over FIPS 197.
-- Assumes nothing.
use Rattle.std.specs.Prelude.{◌≡◌, true, ◌↔◌, List, ◌++◌, ℕ, ◌+◌, ◌≤◌, length, get_or, take, drop}
use Rattle.std.specs.Borrow.{Bor}
use Rattle.laws.specs.Joined.{joined}
use Rattle.block.specs.Bits.{bytes}
use Rattle.pcmac.specs.Limits.{resolved_order, resolved_tag}
use Rattle.pcmac.specs.Taggen.{TAGGEN}
use Rattle.keys.specs.declared.KeySet.{KeySet}
use Rattle.keys.specs.declared.KeyAnswer.{KeyAnswer}
use Rattle.keys.specs.Promise.{KeyCallPromise}
use Rattle.tag.specs.declared.TagAnswer.{TagAnswer}
use Rattle.tag.specs.Tag.{tag_bytes}
use Rattle.judge.specs.declared.Stream.{Stream}
use Rattle.stream.specs.Promise.{StartPromise, CheckPromise}
use Rattle.message.specs.Promise.{TagPromise, VerifyPromise}
use Rattle.hex_line.specs.Line.{is_hex, decoded}
use Rattle.keyline.specs.Promise.{ReadPromise}
use Rattle.frame.specs.declared.FrameAnswer.{FrameAnswer}
use Rattle.frame.specs.Promise.{JudgePromise, OpenPromise, OpenOrPromise}
use Rattle.bridge.specs.Promise.{OpenOrKeepPromise}
use Rattle.answer.specs.Promise.{OfLinePromise}
use Rattle.writer.specs.declared.Written.{Written}
use Rattle.writer.specs.Promise.{WritePromise}
use Rattle.demands.specs.Numbers.{Verdict}
use Rattle.demands.specs.Shore.{ShoreAndShip}
use Rattle.demands.specs.Unsaid.{OrderUnsaid}
use Rattle.demands.specs.Terms.{Made, Message, Frame, body_end, Right, Genuine, frame_for, line_for, Octets, AddedAll}

-- all of it. The specification's d and p are those of the key set: made.keys.order and made.keys.bits
pub record Demand2 : Type 0 where
  -- every key set that the key call answers has the order and the tag length that were meant: 0 is order 2, and 128 bits
  pub meant : (order bits : ℕ) (K L : List ℕ) (made : KeyAnswer) → Made order bits K L made
      → (made.keys.order ≡ resolved_order order) × (made.keys.bits ≡ resolved_tag bits)
  -- so 0 answers as 2 does: to the key call, on a key line, and of check and send
  pub order_unsaid : OrderUnsaid
  -- a key line of 68 digits has the key call's answer for what it says: a byte of order, one of tag length, K, L
  pub key_line_read : (line : List ℕ) (made : KeyAnswer) → length line ≡ 68 → is_hex line ≡ true → ReadPromise line made
      → KeyCallPromise (get_or (decoded line) 0 0) (get_or (decoded line) 1 0) (take 16 (drop 2 (decoded line)))
      (take 16 (drop 18 (decoded line))) made
  -- a message's tag is made
  pub tag_made : (order bits : ℕ) (K L M slice after : List ℕ) (made : KeyAnswer) (r : TagAnswer) → Made order bits K L made
      → Message M → length slice ≡ tag_bytes made.keys.bits → TagPromise made.keys M slice r after
      → (r.number ≡ 0) × (after ≡ bytes (TAGGEN made.keys.order made.keys.bits K L M))
  -- and checked
  pub tag_checked : (order tagBits : ℕ) (K L M received : List ℕ) (made : KeyAnswer) (r : TagAnswer) → Made order tagBits K L made
      → Message M → length received ≡ tag_bytes made.keys.bits → VerifyPromise made.keys M received r
      → ((r.number ≡ 0) ↔ Right made.keys.order made.keys.bits K L M received)
      × Verdict r.number
  -- and so by a stream, after the parts of the message, however it was cut
  pub stream_checked : (order tagBits : ℕ) (K L received : List ℕ) (parts : List (List ℕ)) (s t : Stream) (made : KeyAnswer)
      (r : TagAnswer) → Made order tagBits K L made → Message (joined parts) → StartPromise s → AddedAll made.keys s parts t
      → length received ≡ tag_bytes made.keys.bits → CheckPromise made.keys t received r
      → ((r.number ≡ 0) ↔ Right made.keys.order made.keys.bits K L (joined parts) received)
      × Verdict r.number
  -- a tag has one spelling: of bytes, as many as it occupies, just its own are right
  pub one_spelling : (order tagBits : ℕ) (K L M received : List ℕ) (made : KeyAnswer) → Made order tagBits K L made → Octets received
      → length received ≡ tag_bytes made.keys.bits
      → Right made.keys.order made.keys.bits K L M received
      ↔ (received ≡ bytes (TAGGEN made.keys.order made.keys.bits K L M))
  -- a frame is accepted exactly when its tag is right for its body, and otherwise refused with 7; accepted, its body is all but the
  -- bytes of the tag
  pub frame_judged : (order bits : ℕ) (K L f : List ℕ) (made : KeyAnswer) (r : FrameAnswer) → Made order bits K L made
      → Frame made.keys.bits f → JudgePromise made.keys f r
      → ((r.number ≡ 0) ↔ Genuine made.keys.order made.keys.bits K L f)
      × Verdict r.number
      × (r.number ≡ 0 → r.body ≡ body_end made.keys.bits f)
  -- and a body with the bytes of its tag behind it is accepted, as just that body
  pub frame_made : (order bits : ℕ) (K L M : List ℕ) (made : KeyAnswer) (r : FrameAnswer) → Made order bits K L made → 1 ≤ length M
      → length M + tag_bytes made.keys.bits ≤ 255
      → JudgePromise made.keys (frame_for made.keys.order made.keys.bits K L M) r
      → (r.number ≡ 0) × (r.body ≡ length M)
  -- a frame line of at most 510 digits, in pairs, is judged as the frame that it says
  pub line_judged : (keys : KeySet) (line : List ℕ) (r : FrameAnswer) → length line ≤ 510 → is_hex line ≡ true
      → OfLinePromise keys line r → JudgePromise keys (decoded line) r
  -- and accepted exactly when it is the line of its body
  pub line_accepted : (order bits : ℕ) (K L line : List ℕ) (made : KeyAnswer) (r : FrameAnswer) → Made order bits K L made
      → length line ≤ 510 → is_hex line ≡ true → Frame made.keys.bits (decoded line) → OfLinePromise made.keys line r
      → ((r.number ≡ 0)
      ↔ (line ≡ line_for made.keys.order made.keys.bits K L (take (body_end made.keys.bits (decoded line)) (decoded line))))
      × Verdict r.number
  -- opening a frame that judging accepts, under whichever key set, yields that body, as that part of the frame
  pub opened : (keys : KeySet) (frame o : Bor (List ℕ)) (r : FrameAnswer) → JudgePromise keys frame.now r → r.number ≡ 0
      → OpenPromise keys frame o → (o.now ≡ take (body_end keys.bits frame.now) frame.now) × (o.ref_ptr ≡ frame.ref_ptr)
  -- so do the two calls that take the table in force: never the table then
  pub opened_or_is : (keys : KeySet) (frame table o : Bor (List ℕ)) (r : FrameAnswer) → JudgePromise keys frame.now r
      → r.number ≡ 0 → OpenOrPromise keys frame table o
      → (o.now ≡ take (body_end keys.bits frame.now) frame.now) × (o.ref_ptr ≡ frame.ref_ptr)
  pub opened_or_kept : (keys : KeySet) (frame table o : Bor (List ℕ)) (r : FrameAnswer) → JudgePromise keys frame.now r
      → r.number ≡ 0 → OpenOrKeepPromise keys frame table o
      → (o.now ≡ take (body_end keys.bits frame.now) frame.now) × (o.ref_ptr ≡ frame.ref_ptr)
  -- the writer's line is the body, and behind it the bytes of the tag that TAGGEN gives for it, in hexadecimal; every byte of the space
  -- behind the line keeps its value
  pub line_written : (order bits : ℕ) (K L M space after : List ℕ) (made : KeyAnswer) (w : Written) → Made order bits K L made
      → 1 ≤ length M → length M + tag_bytes made.keys.bits ≤ 255 → 510 ≤ length space → WritePromise made.keys M space w after
      → (w.number ≡ 0)
      × (w.written ≡ length (line_for made.keys.order made.keys.bits K L M))
      × (after
      ≡ line_for made.keys.order made.keys.bits K L M
      ++ drop (length (line_for made.keys.order made.keys.bits K L M)) space)
  -- what the writer writes check accepts, and the other way round; and so for the two programs
  pub shore_and_ship : ShoreAndShip
