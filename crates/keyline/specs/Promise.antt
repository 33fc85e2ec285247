-- What the public function of this crate promises, and that the promise leaves one answer.
-- Assumes nothing.
use Rattle.std.specs.Prelude.{◌≡◌, List, ℕ}
use Rattle.laws.proofs.Once.{once}
use Rattle.keys.specs.declared.KeyAnswer.{KeyAnswer}
use Rattle.keyline.specs.KeyLine.{key_line_answer}

-- read hands back the answer of a key line
abbrev pub ReadPromise : List ℕ → KeyAnswer → Type 0
ReadPromise line r = r ≡ key_line_answer line

-- any two answers that read may give are equal
pub read_once : (line : List ℕ) (r r' : KeyAnswer) → ReadPromise line r → ReadPromise line r' → r ≡ r'
read_once line r r' p q = once p q
