-- The frame line of a body, and what writing it answers and leaves in the lent space, for every key set, body and space.
-- Assumes nothing.
use Rattle.std.specs.Prelude.{List, [], ◌∷◌, ◌++◌, ℕ, ◌+◌, ◌*◌, eqb, leb, length}
use Rattle.laws.specs.Agree.{both}
use Rattle.laws.specs.Fault.{unless, first_fault}
use Rattle.laws.specs.Pick.{pick}
use Rattle.block.specs.Bits.{bytes}
use Rattle.keys.specs.declared.KeySet.{KeySet}
use Rattle.numbers.specs.Numbers.{done, bad_size, bad_body}
use Rattle.keys.specs.SetNumber.{set_number}
use Rattle.tag.specs.Tag.{tag_bytes}
use Rattle.message.specs.Answer.{tagged}
use Rattle.hex_line.specs.Line.{encoded}
use Rattle.hex_line.specs.Answer.{written_space}
use Rattle.frame.specs.Frame.{longest_frame}
use Rattle.writer.specs.declared.Written.{Written}

-- the least bytes of the space: two characters for each byte of the longest frame
abbrev pub least_room : ℕ
least_room = 2 * longest_frame

-- the number of the first fault of a space of so many bytes and a body of n: 1, 2; 3, the space is under 510 bytes, also where the line
-- would be short; 10, the body is empty, or it and its tag together are above 255 bytes
unfoldable pub write_number : KeySet → ℕ → ℕ → ℕ
write_number k room n =
    first_fault
    (set_number k ∷ unless (leb least_room room) bad_size
    ∷ unless (both (leb 1 n) (leb (n + tag_bytes k.bits) longest_frame)) bad_body
    ∷ [])

-- the frame of a body: the body, and behind it the bytes of its tag
unfoldable pub frame_of : KeySet → List ℕ → List ℕ
frame_of k body = body ++ bytes (tagged k body).tag

-- the line of that frame: two characters for each byte
abbrev pub line_of : KeySet → List ℕ → List ℕ
line_of k body = encoded (frame_of k body)

-- refused: the number, no counts and no characters
unfoldable pub refused_write : ℕ → Written
refused_write number = record { number = number; whole = 0; four = 0; written = 0 }

-- written: 0, the counts of the body's tag, and how many characters the line has
unfoldable pub done_write : KeySet → List ℕ → Written
done_write k body = record {
  number = done;
  whole = (tagged k body).whole;
  four = (tagged k body).four;
  written = length (line_of k body);
}

-- the answer, with a space of so many bytes
unfoldable pub write_answer : KeySet → List ℕ → ℕ → Written
write_answer k body room =
    pick (eqb (write_number k room (length body)) done) (done_write k body) (refused_write (write_number k room (length body)))

-- and what the space holds then: the line from its start, and behind it what it held; where it is refused, what it held
abbrev pub write_space : KeySet → List ℕ → List ℕ → List ℕ
write_space k body space = written_space space (write_number k (length space) (length body)) (line_of k body)
