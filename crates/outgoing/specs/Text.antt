-- The text that send says to a body line, for every key set and every line.
-- Assumes nothing.
use Rattle.std.specs.Prelude.{Bool, List, [], ◌∷◌, ◌++◌, ℕ, ◌+◌, eqb, length}
use Rattle.laws.specs.Agree.{both}
use Rattle.laws.specs.Pick.{pick}
use Rattle.keys.specs.declared.KeySet.{KeySet}
use Rattle.numbers.specs.Numbers.{done}
use Rattle.hex_line.specs.Answer.{least_space, decode_number}
use Rattle.hex_line.specs.Line.{decoded}
use Rattle.lines.specs.Lines.{line_feed}
use Rattle.writer.specs.Line.{least_room, write_number, line_of}

-- the most bytes of a text: the longest frame line, and its line feed
abbrev pub most_text : ℕ
most_text = least_room + 1

-- a body line is sent: it is at most 510 digits in pairs, and the writer, with a space that has room, does not refuse the body that it says
unfoldable pub is_sent : KeySet → List ℕ → Bool
is_sent k line =
    both (eqb (decode_number least_space line) done) (eqb (write_number k least_room (length (decoded line))) done)

-- the characters at it: the frame line of its body; where it is not sent, none
unfoldable pub sent_line : KeySet → List ℕ → List ℕ
sent_line k line = pick (is_sent k line) (line_of k (decoded line)) []

-- and the text: a line of those characters
unfoldable pub sent_text : KeySet → List ℕ → List ℕ
sent_text k line = sent_line k line ++ (line_feed ∷ [])
