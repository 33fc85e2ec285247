-- What decoding a line and encoding bytes answer and write, for every line, all bytes and every space.
-- Assumes nothing.
use Rattle.std.specs.Prelude.{List, [], ◌∷◌, ◌++◌, ℕ, ◌*◌, eqb, leb, length, drop}
use Rattle.laws.specs.Fault.{unless, first_fault}
use Rattle.laws.specs.Pick.{pick}
use Rattle.numbers.specs.Numbers.{done, bad_size, bad_length, not_hex}
use Rattle.hex_line.specs.declared.LineAnswer.{LineAnswer}
use Rattle.hex_line.specs.Line.{is_hex}

-- the most characters of a line that is decoded
abbrev pub longest_line : ℕ
longest_line = 510

-- the least bytes of the space that it is decoded into
abbrev pub least_space : ℕ
least_space = 255

-- the number of the first fault of a line, for a space of so many bytes: 3, 8, 9
unfoldable pub decode_number : ℕ → List ℕ → ℕ
decode_number space line =
    first_fault
    (unless (leb least_space space) bad_size ∷ unless (leb (length line) longest_line) bad_length ∷ unless (is_hex line) not_hex ∷ [])

-- the number of the fault of a space of so many bytes for the characters of bytes: 3, it has not two for each of them
unfoldable pub encode_number : ℕ → List ℕ → ℕ
encode_number space bytes = first_fault (unless (leb (2 * length bytes) space) bad_size ∷ [])

-- refused: the number, and nothing written
unfoldable pub refused_line : ℕ → LineAnswer
refused_line number = record { number = number; written = 0 }

-- the answer of a call that writes x in a lent space, by the number of its first fault: 0 and how much was written, or the refusal
unfoldable pub written_answer : ℕ → List ℕ → LineAnswer
written_answer number x = pick (eqb number done) (record { number = done; written = length x }) (refused_line number)

-- and what the space holds then: x from its start, and behind it what it held; where it is refused, what it held
unfoldable pub written_space : List ℕ → ℕ → List ℕ → List ℕ
written_space space number x = pick (eqb number done) (x ++ drop (length x) space) space
