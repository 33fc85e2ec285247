-- DEMAND 1. Each call has an answer to every input (that it is the only one is the -once theorem of its promise; that the call comes to
-- an end is the check's verdict); its number is the outline's; and a refusal leaves all that was handed in as it was, and carries no
-- lengths and, save with 7, no counts.
-- Assumes nothing.
use Rattle.std.specs.Prelude.{◌≡◌, Bool, true, List, [], ℕ, length, take}
use Rattle.std.specs.Borrow.{Bor}
use Rattle.keys.specs.declared.KeySet.{KeySet}
use Rattle.keys.specs.Told.{no_set}
use Rattle.keys.specs.declared.KeyAnswer.{KeyAnswer}
use Rattle.keys.specs.Promise.{KeyCallPromise}
use Rattle.keys.specs.SetNumber.{set_number}
use Rattle.tag.specs.declared.TagAnswer.{TagAnswer}
use Rattle.judge.specs.declared.Stream.{Stream}
use Rattle.judge.specs.Stream.{formed}
use Rattle.stream.specs.declared.Added.{Added}
use Rattle.stream.specs.Promise.{StartPromise, AddPromise, ClosePromise, CheckPromise}
use Rattle.message.specs.Answer.{tagged}
use Rattle.message.specs.Promise.{TagPromise, VerifyPromise}
use Rattle.hex_line.specs.declared.LineAnswer.{LineAnswer}
use Rattle.hex_line.specs.Promise.{DecodePromise, EncodePromise}
use Rattle.keyline.specs.Promise.{ReadPromise}
use Rattle.frame.specs.declared.FrameAnswer.{FrameAnswer}
use Rattle.frame.specs.Promise.{JudgePromise, OpenPromise, OpenOrPromise}
use Rattle.bridge.specs.Promise.{OpenOrKeepPromise}
use Rattle.session.specs.declared.State.{State}
use Rattle.session.specs.declared.Stepped.{Stepped}
use Rattle.answer.specs.Promise.{OfLinePromise, TellPromise}
use Rattle.writer.specs.declared.Written.{Written}
use Rattle.writer.specs.Promise.{WritePromise}
use Rattle.outgoing.specs.Promise as outgoing
use Rattle.session.specs.Promise.{WidthPromise, BeginPromise, IsOverPromise, StepPromise, FinishPromise}
use Rattle.demands.specs.Numbers.{Numbers}
use Rattle.demands.specs.Terms.{body_end}

-- for every input an answer, and what is lent as the call leaves it
pub record Answers : Type 0 where
  -- the key call
  pub makes_keys : (order bits : ℕ) (K L : List ℕ) → (made : KeyAnswer) × KeyCallPromise order bits K L made
  -- a stream: start, a part added, close, check
  pub starts : (s : Stream) × StartPromise s
  pub adds : (keys : KeySet) (s : Stream) (part : List ℕ) → (a : Added) × AddPromise keys s part a
  pub closes : (keys : KeySet) (s : Stream) (slice : List ℕ) → (r : TagAnswer) × (after : List ℕ) × ClosePromise keys s slice r after
  pub checks : (keys : KeySet) (s : Stream) (received : List ℕ) → (r : TagAnswer) × CheckPromise keys s received r
  -- a whole message: its tag, and the check of one
  pub tags : (keys : KeySet) (M slice : List ℕ) → (r : TagAnswer) × (after : List ℕ) × TagPromise keys M slice r after
  pub verifies : (keys : KeySet) (M received : List ℕ) → (r : TagAnswer) × VerifyPromise keys M received r
  -- a line decoded, bytes encoded, and a key line read
  pub decodes : (line space : List ℕ) → (r : LineAnswer) × (after : List ℕ) × DecodePromise line space r after
  pub encodes : (bytes space : List ℕ) → (r : LineAnswer) × (after : List ℕ) × EncodePromise bytes space r after
  pub reads : (line : List ℕ) → (made : KeyAnswer) × ReadPromise line made
  -- a frame judged, opened, and opened or else the table in force: at one lifetime, and at two
  pub judges : (keys : KeySet) (f : List ℕ) → (r : FrameAnswer) × JudgePromise keys f r
  pub opens : (keys : KeySet) (frame : Bor (List ℕ)) → (o : Bor (List ℕ)) × OpenPromise keys frame o
  pub opens_or : (keys : KeySet) (frame table : Bor (List ℕ)) → (o : Bor (List ℕ)) × OpenOrPromise keys frame table o
  pub opens_or_keeps : (keys : KeySet) (frame table : Bor (List ℕ)) → (o : Bor (List ℕ)) × OpenOrKeepPromise keys frame table o
  -- a body's frame line written
  pub writes : (keys : KeySet) (body space : List ℕ) → (w : Written) × (after : List ℕ) × WritePromise keys body space w after
  -- the program check: a frame line, and the text of its answer in a space; the program send: the text at a body line in a space
  pub judges_line : (keys : KeySet) (line : List ℕ) → (r : FrameAnswer) × OfLinePromise keys line r
  pub tells : (a : FrameAnswer) (space : List ℕ) → (r : ℕ) × (after : List ℕ) × TellPromise a space r after
  pub sends : (keys : KeySet) (line space : List ℕ) → (r : ℕ) × (after : List ℕ) × outgoing.TellPromise keys line space r after
  -- either of them: how long a text may be, its state at the start, a part of its input, the end of it, and whether it is over
  pub has_width : (kind : ℕ) → (r : ℕ) × WidthPromise kind r
  pub begins : (kind : ℕ) → (s : State) × BeginPromise kind s
  pub steps : (s : State) (part space : List ℕ) → (r : Stepped) × (after : List ℕ) × StepPromise s part space r after
  pub finishes : (s : State) (space : List ℕ) → (r : Stepped) × (after : List ℕ) × FinishPromise s space r after
  pub is_over_is : (s : State) → (r : Bool) × IsOverPromise s r

-- the calls on keys, streams and messages, refused
pub record Refusals : Type 0 where
  -- the key call: no steps, and a set of zeros
  pub keys_refused : (order bits : ℕ) (K L : List ℕ) (made : KeyAnswer) → KeyCallPromise order bits K L made
      → (made.number ≡ 0 → ⊥) → (made.steps ≡ 0) × (made.keys ≡ no_set)
  -- adding: the stream that was given
  pub add_refused : (keys : KeySet) (s : Stream) (part : List ℕ) (a : Added) → AddPromise keys s part a → (a.number ≡ 0 → ⊥)
      → a.stream ≡ s
  -- closing and the one-call tag: each byte of the slice, and no counts
  pub close_refused : (keys : KeySet) (s : Stream) (slice after : List ℕ) (r : TagAnswer) → ClosePromise keys s slice r after
      → (r.number ≡ 0 → ⊥) → (after ≡ slice) × (r.whole ≡ 0) × (r.four ≡ 0)
  pub tag_refused : (keys : KeySet) (M slice after : List ℕ) (r : TagAnswer) → TagPromise keys M slice r after
      → (r.number ≡ 0 → ⊥) → (after ≡ slice) × (r.whole ≡ 0) × (r.four ≡ 0)
  -- checking, refused with another number than 7: no counts
  pub check_refused : (keys : KeySet) (s : Stream) (received : List ℕ) (r : TagAnswer) → CheckPromise keys s received r
      → (r.number ≡ 0 → ⊥) → (r.number ≡ 7 → ⊥) → (r.whole ≡ 0) × (r.four ≡ 0)
  pub verify_refused : (keys : KeySet) (M received : List ℕ) (r : TagAnswer) → VerifyPromise keys M received r
      → (r.number ≡ 0 → ⊥) → (r.number ≡ 7 → ⊥) → (r.whole ≡ 0) × (r.four ≡ 0)

-- the calls on lines and frames, refused
pub record RefusalsOfLinesAndFrames : Type 0 where
  -- decoding a line: each byte of the space, and no bytes counted
  pub decode_refused : (line space after : List ℕ) (r : LineAnswer) → DecodePromise line space r after → (r.number ≡ 0 → ⊥)
      → (after ≡ space) × (r.written ≡ 0)
  -- encoding bytes: each character of the space, and none counted
  pub encode_refused : (bytes space after : List ℕ) (r : LineAnswer) → EncodePromise bytes space r after → (r.number ≡ 0 → ⊥)
      → (after ≡ space) × (r.written ≡ 0)
  -- writing a frame line: each byte of the space, no counts and no characters
  pub write_refused : (keys : KeySet) (body space after : List ℕ) (w : Written) → WritePromise keys body space w after
      → (w.number ≡ 0 → ⊥) → (after ≡ space) × (w.whole ≡ 0) × (w.four ≡ 0) × (w.written ≡ 0)
  -- the key line: no steps, and a set of zeros
  pub key_line_refused : (line : List ℕ) (made : KeyAnswer) → ReadPromise line made → (made.number ≡ 0 → ⊥)
      → (made.steps ≡ 0) × (made.keys ≡ no_set)
  -- judging a frame, or a frame line, refused with another number than 7: no counts and no length
  pub judge_refused : (keys : KeySet) (f : List ℕ) (r : FrameAnswer) → JudgePromise keys f r → (r.number ≡ 0 → ⊥)
      → (r.number ≡ 7 → ⊥) → (r.whole ≡ 0) × (r.four ≡ 0) × (r.body ≡ 0)
  pub frame_line_refused : (keys : KeySet) (line : List ℕ) (r : FrameAnswer) → OfLinePromise keys line r → (r.number ≡ 0 → ⊥)
      → (r.number ≡ 7 → ⊥) → (r.whole ≡ 0) × (r.four ≡ 0) × (r.body ≡ 0)
  -- a frame with 7: no length, and the counts of the check, which are those of the body's tag
  pub judge_differs : (keys : KeySet) (f : List ℕ) (r : FrameAnswer) → JudgePromise keys f r → r.number ≡ 7
      → (r.body ≡ 0) × (r.whole ≡ (tagged keys (take (body_end keys.bits f) f)).whole)
      × (r.four ≡ (tagged keys (take (body_end keys.bits f) f)).four)
  -- opening a frame that judging refuses: no bytes, at the place of the frame
  pub open_refused : (keys : KeySet) (frame o : Bor (List ℕ)) (r : FrameAnswer) → JudgePromise keys frame.now r
      → (r.number ≡ 0 → ⊥) → OpenPromise keys frame o → (o.now ≡ []) × (o.ref_ptr ≡ frame.ref_ptr)
  -- with a table in force: that table, whole and where it lay
  pub open_or_refused : (keys : KeySet) (frame table o : Bor (List ℕ)) (r : FrameAnswer) → JudgePromise keys frame.now r
      → (r.number ≡ 0 → ⊥) → OpenOrPromise keys frame table o → (o.now ≡ table.now) × (o.ref_ptr ≡ table.ref_ptr)
  pub open_or_keep_refused : (keys : KeySet) (frame table o : Bor (List ℕ)) (r : FrameAnswer) → JudgePromise keys frame.now r
      → (r.number ≡ 0 → ⊥) → OpenOrKeepPromise keys frame table o → (o.now ≡ table.now) × (o.ref_ptr ≡ table.ref_ptr)

-- all of it
pub record Demand1 : Type 0 where
  pub answers : Answers
  pub numbers : Numbers
  pub refusals : Refusals
  pub refusals_of_lines_and_frames : RefusalsOfLinesAndFrames
  -- a part of no bytes, for a well-formed stream under a key set that is not refused, is done and changes nothing (its array of held
  -- bytes has sixteen, as its type says)
  pub add_nothing : (keys : KeySet) (s : Stream) (a : Added) → set_number keys ≡ 0 → formed keys.order s ≡ true
      → length s.held ≡ 16 → AddPromise keys s [] a → (a.number ≡ 0) × (a.stream ≡ s)
