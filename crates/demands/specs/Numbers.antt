-- The number that each call gives, for every input: its faults in the order in which they are judged, each with its number.
-- Assumes nothing.
use Rattle.std.specs.Prelude.{◌≡◌, ◌⊎◌, ◌↔◌, false, List, ℕ, ◌+◌, ◌*◌, ◌≤◌, ◌<◌, length, get_or}
use Rattle.keys.specs.declared.KeySet.{KeySet}
use Rattle.keys.specs.declared.KeyAnswer.{KeyAnswer}
use Rattle.keys.specs.Promise.{KeyCallPromise}
use Rattle.tag.specs.declared.TagAnswer.{TagAnswer}
use Rattle.tag.specs.Tag.{tag_bytes}
use Rattle.judge.specs.declared.Stream.{Stream}
use Rattle.judge.specs.Stream.{formed}
use Rattle.stream.specs.declared.Added.{Added}
use Rattle.stream.specs.Promise.{AddPromise, ClosePromise, CheckPromise}
use Rattle.message.specs.Promise.{TagPromise, VerifyPromise}
use Rattle.hex_line.specs.declared.LineAnswer.{LineAnswer}
use Rattle.hex_line.specs.Line.{is_hex, decoded}
use Rattle.hex_line.specs.Promise.{DecodePromise, EncodePromise}
use Rattle.keyline.specs.Promise.{ReadPromise}
use Rattle.frame.specs.declared.FrameAnswer.{FrameAnswer}
use Rattle.frame.specs.Promise.{JudgePromise}
use Rattle.answer.specs.Promise.{OfLinePromise}
use Rattle.writer.specs.declared.Written.{Written}
use Rattle.writer.specs.Promise.{WritePromise}
use Rattle.outgoing.specs.Promise as outgoing

infixr 1 when◌give◌otherwise◌
-- what is said of a number n: where the fault applies n is the number given, and where it does not, n is as the rest says
abbrev pub when◌give◌otherwise◌ : Type 0 → ℕ → (ℕ → Type 0) → ℕ → Type 0
when◌give◌otherwise◌ fault number rest n = (fault → n ≡ number) × ((fault → ⊥) → rest n)

-- nothing applies: the call is done
abbrev pub Done : ℕ → Type 0
Done n = n ≡ 0

-- nothing applies, and the tag is judged: it is accepted, or it differs
abbrev pub Verdict : ℕ → Type 0
Verdict n = (n ≡ 0) ⊎ (n ≡ 7)

-- a key set of no order that there is
abbrev pub NoOrder : KeySet → Type 0
NoOrder keys = (keys.order ≡ 0) ⊎ (5 < keys.order)

-- a key set of no tag length that there is
abbrev pub NoTagLength : KeySet → Type 0
NoTagLength keys = (keys.bits ≡ 0) ⊎ (128 < keys.bits)

-- a slice that has not just the bytes of the key set's tags
abbrev pub WrongSize : KeySet → List ℕ → Type 0
WrongSize keys slice = length slice ≡ tag_bytes keys.bits → ⊥

-- the key call
abbrev pub KeysGive : ℕ → ℕ → List ℕ → List ℕ → ℕ → Type 0
KeysGive order bits K L =
    when 5 < order give 1
    otherwise when 128 < bits give 2
    otherwise when (length K ≡ 16 → ⊥) ⊎ (length L ≡ 16 → ⊥) give 3
    otherwise Done

-- a part added to a stream
abbrev pub AddGives : KeySet → Stream → List ℕ → ℕ → Type 0
AddGives keys s part =
    when NoOrder keys give 1
    otherwise when NoTagLength keys give 2
    otherwise when formed keys.order s ≡ false give 4
    otherwise when 1048576 < s.total + length part give 5
    otherwise Done

-- a stream closed into a slice, or checked against one
abbrev pub StreamGives : KeySet → Stream → List ℕ → (ℕ → Type 0) → ℕ → Type 0
StreamGives keys s slice last =
    when NoOrder keys give 1
    otherwise when NoTagLength keys give 2
    otherwise when WrongSize keys slice give 3
    otherwise when formed keys.order s ≡ false give 4
    otherwise when s.total ≡ 0 give 6
    otherwise last

-- a whole message's tag made in a slice, or one checked
abbrev pub MessageGives : KeySet → List ℕ → List ℕ → (ℕ → Type 0) → ℕ → Type 0
MessageGives keys M slice last =
    when NoOrder keys give 1
    otherwise when NoTagLength keys give 2
    otherwise when WrongSize keys slice give 3
    otherwise when 1048576 < length M give 5
    otherwise when length M ≡ 0 give 6
    otherwise last

-- a line that is decoded, and then what is judged last
abbrev pub LineGives : List ℕ → (ℕ → Type 0) → ℕ → Type 0
LineGives line last = when 510 < length line give 8 otherwise when is_hex line ≡ false give 9 otherwise last

-- a key line: on it the order and the tag length come after the line's own faults
abbrev pub KeyLineGives : List ℕ → ℕ → Type 0
KeyLineGives line =
    when (length line ≡ 68 → ⊥) give 8
    otherwise when is_hex line ≡ false give 9
    otherwise when 5 < get_or (decoded line) 0 0 give 1
    otherwise when 128 < get_or (decoded line) 1 0 give 2
    otherwise Done

-- a frame: it has at most 255 bytes, and one at least before its tag
abbrev pub FrameGives : KeySet → List ℕ → ℕ → Type 0
FrameGives keys f =
    when NoOrder keys give 1
    otherwise when NoTagLength keys give 2
    otherwise when (255 < length f) ⊎ (length f ≤ tag_bytes keys.bits) give 8
    otherwise Verdict

-- a body's frame line written in a space: the space has 510 bytes, also where the line would be short, and the body is not empty and fits
-- a frame with its tag
abbrev pub WriteGives : KeySet → List ℕ → List ℕ → ℕ → Type 0
WriteGives keys body space =
    when NoOrder keys give 1
    otherwise when NoTagLength keys give 2
    otherwise when length space < 510 give 3
    otherwise when (length body ≡ 0) ⊎ (255 < length body + tag_bytes keys.bits) give 10
    otherwise Done

-- a body line that send answers by an empty line: it is no line of at most 510 digits in pairs, or the writer refuses what it says
abbrev pub NotSent : KeySet → List ℕ → Type 0
NotSent keys line =
    (510 < length line) ⊎ (is_hex line ≡ false) ⊎ NoOrder keys ⊎ NoTagLength keys ⊎ (length (decoded line) ≡ 0)
    ⊎ (255 < length (decoded line) + tag_bytes keys.bits)

-- and these are the calls' numbers
pub record Numbers : Type 0 where
  pub key_call_gives : (order bits : ℕ) (K L : List ℕ) (made : KeyAnswer) → KeyCallPromise order bits K L made
      → KeysGive order bits K L made.number
  pub add_gives : (keys : KeySet) (s : Stream) (part : List ℕ) (a : Added) → AddPromise keys s part a
      → AddGives keys s part a.number
  pub close_gives : (keys : KeySet) (s : Stream) (slice after : List ℕ) (r : TagAnswer) → ClosePromise keys s slice r after
      → StreamGives keys s slice Done r.number
  pub check_gives : (keys : KeySet) (s : Stream) (received : List ℕ) (r : TagAnswer) → CheckPromise keys s received r
      → StreamGives keys s received Verdict r.number
  pub tag_gives : (keys : KeySet) (M slice after : List ℕ) (r : TagAnswer) → TagPromise keys M slice r after
      → MessageGives keys M slice Done r.number
  pub verify_gives : (keys : KeySet) (M received : List ℕ) (r : TagAnswer) → VerifyPromise keys M received r
      → MessageGives keys M received Verdict r.number
  pub decode_gives : (line space after : List ℕ) (r : LineAnswer) → DecodePromise line space r after
      → (when length space < 255 give 3 otherwise LineGives line Done) r.number
  pub encode_gives : (bytes space after : List ℕ) (r : LineAnswer) → EncodePromise bytes space r after
      → (when length space < 2 * length bytes give 3 otherwise Done) r.number
  pub key_line_gives : (line : List ℕ) (made : KeyAnswer) → ReadPromise line made → KeyLineGives line made.number
  pub judge_gives : (keys : KeySet) (f : List ℕ) (r : FrameAnswer) → JudgePromise keys f r → FrameGives keys f r.number
  -- a frame line is decoded first, and only then judged as a frame
  pub frame_line_gives : (keys : KeySet) (line : List ℕ) (r : FrameAnswer) → OfLinePromise keys line r
      → LineGives line (FrameGives keys (decoded line)) r.number
  pub write_gives : (keys : KeySet) (body space after : List ℕ) (w : Written) → WritePromise keys body space w after
      → WriteGives keys body space w.number
  -- send's text at a body line, in a space that has room, is a line feed alone exactly where the line is not sent
  pub send_empties : (keys : KeySet) (line space after : List ℕ) (r : ℕ) → 511 ≤ length space → outgoing.TellPromise keys line space r after
      → (r ≡ 1) ↔ NotSent keys line
