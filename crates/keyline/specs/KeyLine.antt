-- The key line: its faults, and its answer for every line.
-- Assumes nothing.
use Rattle.std.specs.Prelude.{List, [], ◌∷◌, ℕ, eqb, length, get_or, take, drop}
use Rattle.laws.specs.Fault.{unless, first_fault}
use Rattle.laws.specs.Pick.{pick}
use Rattle.keys.specs.declared.KeyAnswer.{KeyAnswer}
use Rattle.numbers.specs.Numbers.{done, bad_length, not_hex}
use Rattle.keys.specs.Answer.{refused_keys, key_answer}
use Rattle.hex_line.specs.Line.{is_hex, decoded}

-- the number of the first fault of the line itself: 8, it is not 68 characters; 9, they are not all digits
unfoldable pub key_line_number : List ℕ → ℕ
key_line_number line = first_fault (unless (eqb (length line) 68) bad_length ∷ unless (is_hex line) not_hex ∷ [])

-- the key call on what it says: a byte of order, a byte of tag length, sixteen of K, sixteen of L
unfoldable pub said_keys : List ℕ → KeyAnswer
said_keys bytes = key_answer (get_or bytes 0 0) (get_or bytes 1 0) (take 16 (drop 2 bytes)) (take 16 (drop 18 bytes))

-- the answer: the key call's, and before it the faults of the line
unfoldable pub key_line_answer : List ℕ → KeyAnswer
key_line_answer line = pick (eqb (key_line_number line) done) (said_keys (decoded line)) (refused_keys (key_line_number line))
