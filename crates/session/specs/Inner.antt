-- What the inner functions of the step ask and hand back. No promise speaks of it, and no reader need believe it.
-- Assumes nothing.
use Rattle.std.specs.Prelude.{◌≡◌, List, [], ℕ, ◌+◌, ◌≤◌, ◌<◌, length}
use Rattle.keys.specs.declared.KeySet.{KeySet}
use Rattle.lines.specs.Reader.{kept_chars, Reader}
use Rattle.lines.specs.Moves.{Wrote, Moves}
use Rattle.session.specs.declared.State.{State}
use Rattle.session.specs.declared.Stepped.{Stepped}
use Rattle.session.specs.declared.Told.{Told}
use Rattle.session.specs.Session.{Session, has_keys, width, session_of, turn_of, tell_of, reader_of, state_of}

-- what a line has made of a session, and the text that was written at it, at the front of a space
pub record Tells (turned : Session) (told space : List ℕ) (r : Told) (after : List ℕ) : Type 0 where
  pub session : session_of r.stage r.keys ≡ turned
  pub text : Wrote told space 0 r.written after

-- so of a session and a line, in a program of a kind
abbrev pub TellsLine : ℕ → Session → List ℕ → List ℕ → Told → List ℕ → Type 0
TellsLine kind a line space r after = Tells (turn_of a line) (tell_of kind a line) space r after

-- a move of the reader of sessions, in a program of a kind
abbrev pub Passes : ℕ → List ℕ → Reader Session → ℕ → ℕ → List ℕ → Reader Session → ℕ → ℕ → List ℕ → Type 0
Passes kind part r at out space r' at' out' space' =
    Moves turn_of (tell_of kind) (width kind) part r at out space r' at' out' space'

-- a state that has nothing behind the characters of its line
pub record Tidy (s : State) : Type 0 where
  pub same : s ≡ state_of s.kind (reader_of s)
  pub size : length s.line ≡ kept_chars

-- one more turn may be taken: the state is tidy, there is more to take, and room for a text
pub record Ready (t : Stepped) (part space : List ℕ) : Type 0 where
  pub tidy : Tidy t.state
  pub more : t.taken < length part
  pub room : t.written + width t.state.kind ≤ length space

-- a turn taken: some characters more, and the program of the same kind
pub record Turned (t : Stepped) (part space : List ℕ) (r : Stepped) (after : List ℕ) : Type 0 where
  pub kind : r.state.kind ≡ t.state.kind
  pub tidy : Tidy r.state
  pub some : t.taken < r.taken
  pub moves : Passes t.state.kind part (reader_of t.state) t.taken t.written space (reader_of r.state) r.taken r.written after

-- what was taken and written so far lies within the part and the space
pub record Within (t : Stepped) (part space : List ℕ) : Type 0 where
  pub most : t.taken ≤ length part
  pub room : t.written ≤ length space

-- the reader between two lines, behind the key line
abbrev pub between : KeySet → Reader Session
between keys = record { session = session_of has_keys keys; line = [] }

-- a turn gone on with: none or some characters more, and the state as it is
pub record Passed (t : Stepped) (part space : List ℕ) (r : Stepped) (after : List ℕ) : Type 0 where
  pub same : r.state ≡ t.state
  pub tidy : Tidy r.state
  pub forth : t.taken ≤ r.taken
  pub moves : Passes t.state.kind part (reader_of t.state) t.taken t.written space (reader_of r.state) r.taken r.written after
