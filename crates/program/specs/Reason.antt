-- Why a turn of a program of lines ended, and what was made of what a read gave, for every state, read and space.
-- Assumes nothing.
use Rattle.std.specs.Prelude.{Bool, true, false, List, ◌++◌, ℕ, ltb, ℤ, pos, negsuc, length, drop}
use Rattle.laws.specs.Pick.{pick}
use Rattle.lines.specs.Reader.{reads, closing}
use Rattle.session.specs.declared.State.{State}
use Rattle.session.specs.Session.{width, turn_of, reader_of, state_of, over}
use Rattle.session.specs.Promise.{taken_of, said_over, step_answer}
use Rattle.program.specs.declared.Heard.{Heard}
use Rattle.program.specs.declared.Reason.{Reason}
use Rattle.program.specs.declared.Reason.TheVariants.{GoesOn, SessionOver, InputEnded, ReadFailed, WriteFailed, NoRoom}

-- a read failed: it gave a number below 0
abbrev pub negative : ℤ → Bool
negative (pos k) = false
negative (negsuc k) = true

-- with a state after a part that is answered: whether more may be read
unfoldable pub told_of : State → Heard
told_of state = record { reason = pick (over state) SessionOver GoesOn; state = state }

-- a part that is answered: the reader's state after it
unfoldable pub answered : State → List ℕ → Heard
answered s part = told_of (state_of s.kind (reads turn_of (reader_of s) part))

-- at the end of the input of a program of a kind, with so much room
unfoldable pub end_reason : ℕ → ℕ → Reason
end_reason kind room = pick (ltb room (width kind)) NoRoom InputEnded

-- how many bytes of what a state lacks the finishing step takes, with so much room: all of them, where there is room for a text
abbrev pub closes : State → ℕ → ℕ
closes s room = taken_of s (closing (reader_of s)) room

-- at the end of the input: the state after the finishing step
unfoldable pub ended : State → List ℕ → Heard
ended s space = record {
  reason = end_reason s.kind (length space);
  state = (step_answer s (closing (reader_of s)) (closes s (length space))).state;
}

-- and what the space then holds: the text at a last line that lacks its line feed, and behind it what it held
unfoldable pub ended_space : State → List ℕ → List ℕ
ended_space s space =
    said_over s (closing (reader_of s)) (closes s (length space))
    ++ drop (length (said_over s (closing (reader_of s)) (closes s (length space)))) space

-- a read that failed: it is made again where it was only interrupted
abbrev pub unread : State → Bool → Heard
unread s interrupted = record { reason = pick interrupted GoesOn ReadFailed; state = s }

-- a write that failed: the state that was given
abbrev pub unwritten : State → Heard
unwritten s = record { reason = WriteFailed; state = s }
