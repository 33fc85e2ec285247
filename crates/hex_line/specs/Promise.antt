-- What the public functions of this crate promise, and that each promise leaves one answer, and one content of the lent space.
-- Assumes nothing.
use Rattle.std.specs.Prelude.{◌≡◌, Option, List, ℕ, length}
use Rattle.laws.proofs.Once.{once}
use Rattle.hex_line.specs.declared.LineAnswer.{LineAnswer}
use Rattle.hex_line.specs.Digit.{digit_of}
use Rattle.hex_line.specs.Line.{decoded, encoded}
use Rattle.hex_line.specs.Answer.{decode_number, encode_number, written_answer, written_space}

-- digit hands back what a character stands for
abbrev pub DigitPromise : ℕ → Option ℕ → Type 0
DigitPromise c r = r ≡ digit_of c

-- any two answers that digit may give are equal
pub digit_once : (c : ℕ) (r r' : Option ℕ) → DigitPromise c r → DigitPromise c r' → r ≡ r'
digit_once c r r' p q = once p q

-- a call writes x in a lent space: with no fault it hands back 0 and how much it wrote, and the space then holds x from its start and is
-- untouched behind it; otherwise the number of its first fault and 0, and the space holds what it held
abbrev pub Writes : ℕ → List ℕ → List ℕ → LineAnswer → List ℕ → Type 0
Writes number x space r after = (r ≡ written_answer number x) × (after ≡ written_space space number x)

-- decode writes the bytes of a line
abbrev pub DecodePromise : List ℕ → List ℕ → LineAnswer → List ℕ → Type 0
DecodePromise line space r after = Writes (decode_number (length space) line) (decoded line) space r after

-- any two outcomes that decode may have are equal, the answer and the space
pub decode_once : (line space : List ℕ) (r r' : LineAnswer) (after after' : List ℕ) → DecodePromise line space r after
    → DecodePromise line space r' after' → (r ≡ r') × (after ≡ after')
decode_once line space r r' after after' p q = (once p.0 q.0, once p.1 q.1)

-- encode writes the line of bytes
abbrev pub EncodePromise : List ℕ → List ℕ → LineAnswer → List ℕ → Type 0
EncodePromise bytes space r after = Writes (encode_number (length space) bytes) (encoded bytes) space r after

-- any two outcomes that encode may have are equal, the answer and the space
pub encode_once : (bytes space : List ℕ) (r r' : LineAnswer) (after after' : List ℕ) → EncodePromise bytes space r after
    → EncodePromise bytes space r' after' → (r ≡ r') × (after ≡ after')
encode_once bytes space r r' after after' p q = (once p.0 q.0, once p.1 q.1)
