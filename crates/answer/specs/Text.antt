-- The text of an answer.
-- Assumes nothing.
use Rattle.std.specs.Prelude.{List, [], ◌∷◌, ◌++◌, ℕ}
use Rattle.laws.specs.BigEndian.{big_endian}
use Rattle.hex_line.specs.Line.{encoded}
use Rattle.lines.specs.Lines.{line_feed}
use Rattle.frame.specs.declared.FrameAnswer.{FrameAnswer}

-- the bytes of a text
abbrev pub text_length : ℕ
text_length = 21

-- an answer as bytes: one of number, four of whole-cipher steps, four of four-round steps and one of body length
unfoldable pub answer_bytes : FrameAnswer → List ℕ
answer_bytes a = big_endian 1 a.number ++ big_endian 4 a.whole ++ big_endian 4 a.four ++ big_endian 1 a.body

-- the text of an answer: two digits for each, so two of number, eight of whole-cipher steps, eight of four-round steps and two of body
-- length, then a line feed
unfoldable pub text_of : FrameAnswer → List ℕ
text_of a = encoded (answer_bytes a) ++ (line_feed ∷ [])
