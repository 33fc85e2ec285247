-- WHERE NO ORDER IS SAID. 0 for the order, or 00 on a key line, means order 2: the key call, a key line and the programs check and send
-- answer as where 2, or 02, is said, whatever else was handed in. (In a key set 0 means nothing: later calls refuse it with 1, which
-- Numbers.antt says.)
-- Assumes nothing.
use Rattle.std.specs.Prelude.{◌≡◌, List, ◌∷◌, ℕ}
use Rattle.keys.specs.declared.KeyAnswer.{KeyAnswer}
use Rattle.keys.specs.Promise.{KeyCallPromise}
use Rattle.keyline.specs.Promise.{ReadPromise}
use Rattle.session.specs.Output.{check_output, send_output}
use Rattle.demands.specs.Shore.{Ran}
use Rattle.demands.specs.Terms.{Made}

-- a line, or an input, that begins with the characters 00
abbrev pub from_zero : List ℕ → List ℕ
from_zero rest = 0x30 ∷ 0x30 ∷ rest

-- and with 02
abbrev pub from_two : List ℕ → List ℕ
from_two rest = 0x30 ∷ 0x32 ∷ rest

-- all of it
pub record OrderUnsaid : Type 0 where
  -- the key call: number, steps and key set are those for order 2, refused or not
  pub call_unsaid : (bits : ℕ) (K L : List ℕ) (made made' : KeyAnswer) → KeyCallPromise 0 bits K L made
      → KeyCallPromise 2 bits K L made' → made ≡ made'
  -- where it is done, its steps are 7
  pub unsaid_steps : (bits : ℕ) (K L : List ℕ) (made : KeyAnswer) → Made 0 bits K L made → made.steps ≡ 7
  -- a key line, refused or not
  pub line_unsaid : (rest : List ℕ) (made made' : KeyAnswer) → ReadPromise (from_zero rest) made → ReadPromise (from_two rest) made'
      → made ≡ made'
  -- the programs, whatever stands behind these two characters of the input: by their outputs
  pub check_unsaid : (rest : List ℕ) → check_output (from_zero rest) ≡ check_output (from_two rest)
  pub send_unsaid : (rest : List ℕ) → send_output (from_zero rest) ≡ send_output (from_two rest)
  -- and by what was written, of every run of either
  pub ran_unsaid : (kind : ℕ) (rest told told' : List ℕ) → Ran kind (from_zero rest) told → Ran kind (from_two rest) told' → told ≡ told'
