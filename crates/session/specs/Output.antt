-- A program of lines: from the whole input to the whole output. The first line is the key line. A program is what it tells at a line
-- behind it, and at a key line that is refused.
-- Assumes nothing.
use Rattle.std.specs.Prelude.{List, [], ◌∷◌, ◌++◌, ℕ, eqb}
use Rattle.laws.specs.Pick.{pick}
use Rattle.keys.specs.declared.KeySet.{KeySet}
use Rattle.keys.specs.declared.KeyAnswer.{KeyAnswer}
use Rattle.numbers.specs.Numbers.{done}
use Rattle.keyline.specs.KeyLine.{key_line_answer}
use Rattle.frame.specs.Frame.{refused_frame}
use Rattle.lines.specs.Lines.{lines}
use Rattle.answer.specs.Line.{line_answer}
use Rattle.answer.specs.Text.{text_of}
use Rattle.outgoing.specs.Text.{sent_text}

-- what is told at lines under a key set, one text after the other
module _ (tell : KeySet → List ℕ → List ℕ) where
  unfoldable pub told_at : KeySet → List (List ℕ) → List ℕ
  told_at keys [] = []
  told_at keys (line ∷ more) = tell keys line ++ told_at keys more

module _ (refusal : ℕ → List ℕ) (tell : KeySet → List ℕ → List ℕ) where
  -- what is told at a key line, and at the lines behind it: at a refused key line its refusal, and then nothing
  unfoldable pub under_keys : KeyAnswer → List (List ℕ) → List ℕ
  under_keys made more = pick (eqb made.number done) (told_at tell made.keys more) (refusal made.number)

  -- at lines of which the first is the key line; where there is no line, nothing
  unfoldable pub lines_told : List (List ℕ) → List ℕ
  lines_told [] = []
  lines_told (line ∷ more) = under_keys (key_line_answer line) more

  -- the program's output
  unfoldable pub output : List ℕ → List ℕ
  output input = lines_told (lines input)

-- check tells the verdict on a frame line, in a line
unfoldable pub verdict_text : KeySet → List ℕ → List ℕ
verdict_text keys line = text_of (line_answer keys line)

-- and at a refused key line its number and zeros
unfoldable pub refusal_text : ℕ → List ℕ
refusal_text number = text_of (refused_frame number)

-- THE OUTPUT OF CHECK
unfoldable pub check_output : List ℕ → List ℕ
check_output input = output refusal_text verdict_text input

-- send tells the frame line of a body line, in a line, and an empty line where it is refused; at a refused key line nothing
unfoldable pub no_text : ℕ → List ℕ
no_text number = []

-- THE OUTPUT OF SEND
unfoldable pub send_output : List ℕ → List ℕ
send_output input = output no_text sent_text input
