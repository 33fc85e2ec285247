-- A program of lines (Output.antt), line by line: what the lines so far have made of a session, what is told at a line, and how both stand
-- in the state's record.
-- Assumes nothing.
use Rattle.std.specs.Prelude.{Bool, List, [], ℕ, eqb, leb, length, take}
use Rattle.laws.specs.Pick.{pick}
use Rattle.keys.specs.declared.KeySet.{KeySet}
use Rattle.keys.specs.Told.{no_set}
use Rattle.keys.specs.declared.KeyAnswer.{KeyAnswer}
use Rattle.numbers.specs.Numbers.{done}
use Rattle.keyline.specs.KeyLine.{key_line_answer}
use Rattle.lines.specs.Reader.{Reader}
use Rattle.lines.specs.Gather.{laid}
use Rattle.answer.specs.Text.{text_length}
use Rattle.outgoing.specs.Text.{most_text, sent_text}
use Rattle.session.specs.declared.State.{State}
use Rattle.session.specs.Output.{verdict_text, refusal_text, no_text}

-- the kinds of a program: check, which every number but send's is
abbrev pub check_kind : ℕ
check_kind = 0

-- and send
abbrev pub send_kind : ℕ
send_kind = 1

-- the stages: the key line is awaited
abbrev pub awaits_keys : ℕ
awaits_keys = 0

-- it has come, and other lines are awaited
abbrev pub has_keys : ℕ
has_keys = 1

-- it was refused, and nothing more is answered
abbrev pub is_over : ℕ
is_over = 2

-- how long the text at a line may be
unfoldable pub width : ℕ → ℕ
width kind = pick (eqb kind send_kind) most_text text_length

-- what is told at a line behind the key line: the frame line of a body, or the verdict on a frame
unfoldable pub line_tell : ℕ → KeySet → List ℕ → List ℕ
line_tell kind keys line = pick (eqb kind send_kind) (sent_text keys line) (verdict_text keys line)

-- at a key line that is refused, by its number: nothing, or its refusal
unfoldable pub refusal_tell : ℕ → ℕ → List ℕ
refusal_tell kind number = pick (eqb kind send_kind) (no_text number) (refusal_text number)

-- a session: its stage and its key set
pub record Session : Type 0 where
  pub stage : ℕ
  pub keys : KeySet

-- of a stage and a key set
abbrev pub session_of : ℕ → KeySet → Session
session_of stage keys = record { stage = stage; keys = keys }

-- after the key line, by its answer
unfoldable pub key_turn : KeyAnswer → Session
key_turn made = record { stage = pick (eqb made.number done) has_keys is_over; keys = made.keys }

-- what is told at it: nothing, or what is told of its refusal
unfoldable pub key_tell : ℕ → KeyAnswer → List ℕ
key_tell kind made = pick (eqb made.number done) [] (refusal_tell kind made.number)

-- after a line
unfoldable pub turn_of : Session → List ℕ → Session
turn_of a line = pick (eqb a.stage awaits_keys) (key_turn (key_line_answer line)) a

-- what is told at it
unfoldable pub tell_of : ℕ → Session → List ℕ → List ℕ
tell_of kind a line =
    pick (eqb a.stage awaits_keys) (key_tell kind (key_line_answer line))
    (pick (eqb a.stage has_keys) (line_tell kind a.keys line) [])

-- the session at the start
unfoldable pub begun : Session
begun = record { stage = awaits_keys; keys = no_set }

-- what a state stands for
unfoldable pub reader_of : State → Reader Session
reader_of s = record { session = record { stage = s.stage; keys = s.keys }; line = take s.count s.line }

-- the state of a program of a kind that stands for a reader: zeros behind the characters of its line
unfoldable pub state_of : ℕ → Reader Session → State
state_of kind r = record {
  kind = kind;
  stage = r.session.stage;
  keys = r.session.keys;
  line = laid r.line;
  count = length r.line;
}

-- nothing more is answered
unfoldable pub over : State → Bool
over s = leb is_over s.stage
