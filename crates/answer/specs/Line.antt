-- The verdict on a frame line, for every key set and every line.
-- Assumes nothing.
use Rattle.std.specs.Prelude.{List, ℕ, eqb}
use Rattle.laws.specs.Pick.{pick}
use Rattle.keys.specs.declared.KeySet.{KeySet}
use Rattle.numbers.specs.Numbers.{done}
use Rattle.hex_line.specs.Answer.{least_space, decode_number}
use Rattle.hex_line.specs.Line.{decoded}
use Rattle.frame.specs.declared.FrameAnswer.{FrameAnswer}
use Rattle.frame.specs.Frame.{refused_frame, frame_answer}

-- it is decoded first, and only a decoded line is judged as a frame: 8 and 9 of the line come before any fault of the frame
unfoldable pub line_answer : KeySet → List ℕ → FrameAnswer
line_answer k line =
    pick (eqb (decode_number least_space line) done) (frame_answer k (decoded line)) (refused_frame (decode_number least_space line))
