-- DEMAND 3. A message under one key set, cut anywhere into parts, has the tag and the verdict of the whole, and a body the line; a
-- program's input so cut has the output of the whole. Each part within the limit is done, and the total is the length of the parts; the
-- counts are the definition's; and a part takes no more steps than it may.
-- Assumes nothing.
use Rattle.std.specs.Prelude.{◌≡◌, List, ◌++◌, ℕ, ◌+◌, ◌≤◌, length, take, drop}
use Rattle.laws.specs.Joined.{joined}
use Rattle.laws.specs.Up.{up}
use Rattle.pcmac.specs.Taggen.{keys_of, chained}
use Rattle.keys.specs.declared.KeySet.{KeySet}
use Rattle.keys.specs.declared.KeyAnswer.{KeyAnswer}
use Rattle.tag.specs.declared.TagAnswer.{TagAnswer}
use Rattle.tag.specs.Tag.{tag_bytes}
use Rattle.judge.specs.declared.Stream.{Stream}
use Rattle.stream.specs.declared.Added.{Added}
use Rattle.stream.specs.Promise.{StartPromise, AddPromise, ClosePromise, CheckPromise}
use Rattle.message.specs.Promise.{TagPromise, VerifyPromise}
use Rattle.hex_line.specs.Line.{encoded}
use Rattle.frame.specs.declared.FrameAnswer.{FrameAnswer}
use Rattle.frame.specs.Promise.{JudgePromise}
use Rattle.writer.specs.declared.Written.{Written}
use Rattle.writer.specs.Promise.{WritePromise}
use Rattle.session.specs.Output.{check_output, send_output}
use Rattle.session.specs.Session.{send_kind}
use Rattle.session.specs.Cut.{InParts}
use Rattle.demands.specs.Numbers.{Verdict}
use Rattle.demands.specs.Terms.{Made, Frame, body_end, AddedAll}

-- all of it
pub record Demand3 : Type 0 where
  -- start, any parts, and close: the answer and the slice of the one call on the message that they make, for every key set
  pub closed_as_whole : (keys : KeySet) (parts : List (List ℕ)) (s t : Stream) (slice after after' : List ℕ) (r r' : TagAnswer)
      → length (joined parts) ≤ 1048576 → StartPromise s → AddedAll keys s parts t → ClosePromise keys t slice r after
      → TagPromise keys (joined parts) slice r' after' → (r ≡ r') × (after ≡ after')
  -- and check: the verdict of the one call
  pub checked_as_whole : (keys : KeySet) (parts : List (List ℕ)) (s t : Stream) (received : List ℕ) (r r' : TagAnswer)
      → length (joined parts) ≤ 1048576 → StartPromise s → AddedAll keys s parts t → CheckPromise keys t received r
      → VerifyPromise keys (joined parts) received r' → r ≡ r'
  -- a frame's verdict: that of its body, cut anywhere into parts and checked against its tag, the number and both counts
  pub judged_as_parts : (keys : KeySet) (f : List ℕ) (parts : List (List ℕ)) (s t : Stream) (r : FrameAnswer) (r' : TagAnswer)
      → Frame keys.bits f → joined parts ≡ take (body_end keys.bits f) f → StartPromise s → AddedAll keys s parts t
      → JudgePromise keys f r → CheckPromise keys t (drop (body_end keys.bits f) f) r'
      → (r.number ≡ r'.number) × (r.whole ≡ r'.whole) × (r.four ≡ r'.four)
  -- under every key set that the key call answers, each part of a message within the limit is answered 0, whichever parts came before it
  pub part_done : (order bits : ℕ) (K L : List ℕ) (parts : List (List ℕ)) (part : List ℕ) (s t : Stream) (a : Added) (made : KeyAnswer)
      → Made order bits K L made → length (joined parts) + length part ≤ 1048576 → StartPromise s → AddedAll made.keys s parts t
      → AddPromise made.keys t part a → a.number ≡ 0
  -- and the stream's total is the length of the parts so far
  pub totals : (order bits : ℕ) (K L : List ℕ) (parts : List (List ℕ)) (s t : Stream) (made : KeyAnswer) → Made order bits K L made
      → length (joined parts) ≤ 1048576 → StartPromise s → AddedAll made.keys s parts t → t.total ≡ length (joined parts)
  -- after the parts so far, whichever they are, under every key set that the key call answers, the two counts are those of Algorithm
  -- 2.2 on the blocks known not to be the last
  pub counts : (order bits : ℕ) (K L : List ℕ) (parts : List (List ℕ)) (s t : Stream) (made : KeyAnswer) → Made order bits K L made
      → length (joined parts) ≤ 1048576 → StartPromise s → AddedAll made.keys s parts t
      → (t.whole ≡ (chained (keys_of made.keys.order K L) made.keys.order (joined parts)).whole)
      × (t.four ≡ (chained (keys_of made.keys.order K L) made.keys.order (joined parts)).four)
  -- closing adds one whole-cipher step, to whichever stream; so does checking, accepted or not
  pub closing_adds : (keys : KeySet) (s : Stream) (slice after : List ℕ) (r : TagAnswer) → ClosePromise keys s slice r after
      → r.number ≡ 0 → (r.whole ≡ s.whole + 1) × (r.four ≡ s.four)
  pub checking_adds : (keys : KeySet) (s : Stream) (received : List ℕ) (r : TagAnswer) → CheckPromise keys s received r
      → Verdict r.number → (r.whole ≡ s.whole + 1) × (r.four ≡ s.four)
  -- a part of n bytes takes at most n / 16 steps rounded up, of which at most that number over the order plus one, rounded up, are
  -- whole-cipher steps: for whichever stream and key set
  pub bound : (keys : KeySet) (s : Stream) (part : List ℕ) (a : Added) → AddPromise keys s part a
      → (a.stream.whole + a.stream.four ≤ s.whole + s.four + up (length part) 16)
      × (a.stream.whole ≤ s.whole + up (up (length part) 16) (keys.order + 1))
  -- the writer's line and counts are those of the body cut anywhere into parts: closed, they give its tag and its counts
  pub written_as_parts : (keys : KeySet) (body space after slice tag : List ℕ) (parts : List (List ℕ)) (s t : Stream) (w : Written)
      (r : TagAnswer) → joined parts ≡ body → StartPromise s → AddedAll keys s parts t → length slice ≡ tag_bytes keys.bits
      → ClosePromise keys t slice r tag → WritePromise keys body space w after → w.number ≡ 0
      → (r.number ≡ 0) × (take w.written after ≡ encoded (body ++ tag)) × (w.whole ≡ r.whole) × (w.four ≡ r.four)
  -- the programs check, which every kind but send's is, and send: an input, cut anywhere into parts, some perhaps empty, has the output
  -- of the whole
  pub checked_in_parts : (kind : ℕ) → (kind ≡ send_kind → ⊥) → InParts kind check_output
  pub sent_in_parts : InParts send_kind send_output
