-- What the public functions of this crate promise, and that each promise leaves one answer, and one content of the lent space.
-- Assumes nothing.
use Rattle.std.specs.Prelude.{◌≡◌, List, ℕ}
use Rattle.laws.proofs.Once.{once}
use Rattle.keys.specs.declared.KeySet.{KeySet}
use Rattle.frame.specs.declared.FrameAnswer.{FrameAnswer}
use Rattle.lines.specs.Tell.{TellsIn}
use Rattle.answer.specs.Line.{line_answer}
use Rattle.answer.specs.Text.{text_length, text_of}

-- of_line hands back the verdict on a frame line
abbrev pub OfLinePromise : KeySet → List ℕ → FrameAnswer → Type 0
OfLinePromise keys line r = r ≡ line_answer keys line

-- any two answers that of_line may give are equal
pub of_line_once : (keys : KeySet) (line : List ℕ) (r r' : FrameAnswer) → OfLinePromise keys line r → OfLinePromise keys line r'
    → r ≡ r'
of_line_once keys line r r' p q = once p q

-- tell hands back how many bytes it wrote, and the space then holds the text of an answer from its start, and is untouched behind it; with
-- no room for the text it writes nothing (of a count of more than eight digits the low eight are told, of a body length of more than two
-- the low two: that of a frame has none such)
abbrev pub TellPromise : FrameAnswer → List ℕ → ℕ → List ℕ → Type 0
TellPromise a space r after = TellsIn text_length (text_of a) space r after

-- any two outcomes that tell may have are equal, the answer and the space
pub tell_once : (a : FrameAnswer) (space : List ℕ) (r r' : ℕ) (after after' : List ℕ) → TellPromise a space r after
    → TellPromise a space r' after' → (r ≡ r') × (after ≡ after')
tell_once a space r r' after after' p q = (once p.0 q.0, once p.1 q.1)
