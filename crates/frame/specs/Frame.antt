-- A frame: its body and its tag, its faults, and the verdict on it, for every key set and every list of bytes.
-- Assumes nothing.
use Rattle.std.specs.Prelude.{Bool, List, [], ◌∷◌, ℕ, ◌-◌, eqb, leb, ltb, length, take, drop}
use Rattle.laws.specs.Agree.{both}
use Rattle.laws.specs.Fault.{unless, first_fault}
use Rattle.laws.specs.Pick.{pick}
use Rattle.keys.specs.declared.KeySet.{KeySet}
use Rattle.numbers.specs.Numbers.{done, bad_length}
use Rattle.keys.specs.SetNumber.{set_number}
use Rattle.tag.specs.declared.TagAnswer.{TagAnswer}
use Rattle.tag.specs.Answer.{checked_tag}
use Rattle.tag.specs.Tag.{tag_bytes}
use Rattle.message.specs.Answer.{tagged}
use Rattle.frame.specs.declared.FrameAnswer.{FrameAnswer}

-- the most bytes of a frame
abbrev pub longest_frame : ℕ
longest_frame = 255

-- how long the body is: all but the bytes of a tag
abbrev pub body_length : KeySet → List ℕ → ℕ
body_length k frame = length frame - tag_bytes k.bits

-- the body: what stands before the tag
unfoldable pub body_of : KeySet → List ℕ → List ℕ
body_of k frame = take (body_length k frame) frame

-- the tag behind it
unfoldable pub tag_of : KeySet → List ℕ → List ℕ
tag_of k frame = drop (body_length k frame) frame

-- the number of the first fault of a frame of n bytes, before its tag is looked at: 1, 2, and 8, it is above 255 bytes or has no body
-- byte before its tag
unfoldable pub frame_number : KeySet → ℕ → ℕ
frame_number k n =
    first_fault (set_number k ∷ unless (both (leb n longest_frame) (ltb (tag_bytes k.bits) n)) bad_length ∷ [])

-- refused: the number, no counts and no length
unfoldable pub refused_frame : ℕ → FrameAnswer
refused_frame number = record { number = number; whole = 0; four = 0; body = 0 }

-- checked: the number and the counts of the check, 0 or 7, and the body's length where it is 0
unfoldable pub checked_frame : TagAnswer → ℕ → FrameAnswer
checked_frame v n = record { number = v.number; whole = v.whole; four = v.four; body = pick (eqb v.number done) n 0 }

-- the verdict: the tag is checked for the body that stands before it
unfoldable pub frame_answer : KeySet → List ℕ → FrameAnswer
frame_answer k frame =
    pick (eqb (frame_number k (length frame)) done)
    (checked_frame (checked_tag k.bits (tag_of k frame) (tagged k (body_of k frame))) (body_length k frame))
    (refused_frame (frame_number k (length frame)))

-- it is accepted
abbrev pub accepts : KeySet → List ℕ → Bool
accepts k frame = eqb (frame_answer k frame).number done
