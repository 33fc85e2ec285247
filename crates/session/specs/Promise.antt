-- What the public functions of this crate promise, and that each promise leaves one answer, and one content of the lent space.
-- Assumes nothing.
use Rattle.std.specs.Prelude.{◌≡◌, Bool, List, [], ◌++◌, ℕ, length, take, drop}
use Rattle.laws.proofs.Once.{once}
use Rattle.lines.specs.Reader.{reads, said, takes, closing}
use Rattle.session.specs.declared.State.{State}
use Rattle.session.specs.declared.Stepped.{Stepped}
use Rattle.session.specs.Session.{width, begun, turn_of, tell_of, reader_of, state_of, over}

-- width hands back how long the text at a line may be in a program of a kind
abbrev pub WidthPromise : ℕ → ℕ → Type 0
WidthPromise kind r = r ≡ width kind

-- any two answers that width may give are equal
pub width_once : (kind r r' : ℕ) → WidthPromise kind r → WidthPromise kind r' → r ≡ r'
width_once kind r r' p q = once p q

-- begin hands back the state of a program of a kind at the start: the key line is awaited, and no line is begun
abbrev pub BeginPromise : ℕ → State → Type 0
BeginPromise kind r = r ≡ state_of kind (record { session = begun; line = [] })

-- any two answers that begin may give are equal
pub begin_once : (kind : ℕ) (r r' : State) → BeginPromise kind r → BeginPromise kind r' → r ≡ r'
begin_once kind r r' p q = once p q

-- is_over hands back whether the key line was refused, so that nothing more is answered
abbrev pub IsOverPromise : State → Bool → Type 0
IsOverPromise s r = r ≡ over s

-- any two answers that is_over may give are equal
pub is_over_once : (s : State) (r r' : Bool) → IsOverPromise s r → IsOverPromise s r' → r ≡ r'
is_over_once s r r' p q = once p q

-- how many bytes of a part are taken with so much room: as long as there is room for another text
unfoldable pub taken_of : State → List ℕ → ℕ → ℕ
taken_of s part room = takes turn_of (tell_of s.kind) (width s.kind) (reader_of s) room part

-- what is said over the first n bytes of a part
unfoldable pub said_over : State → List ℕ → ℕ → List ℕ
said_over s part n = said turn_of (tell_of s.kind) (reader_of s) (take n part)

-- the answer: the state after the bytes that are taken, how many they are, and how many bytes of texts there are at them
unfoldable pub step_answer : State → List ℕ → ℕ → Stepped
step_answer s part n = record {
  state = state_of s.kind (reads turn_of (reader_of s) (take n part));
  taken = n;
  written = length (said_over s part n);
}

-- step hands that back, and the space then holds those texts from its start, and is untouched behind them
abbrev pub StepPromise : State → List ℕ → List ℕ → Stepped → List ℕ → Type 0
StepPromise s part space r after =
    (r ≡ step_answer s part (taken_of s part (length space)))
    × (after ≡ said_over s part (taken_of s part (length space))
    ++ drop (length (said_over s part (taken_of s part (length space)))) space)

-- any two outcomes that step may have are equal, the answer and the space
pub step_once : (s : State) (part space : List ℕ) (r r' : Stepped) (after after' : List ℕ) → StepPromise s part space r after
    → StepPromise s part space r' after' → (r ≡ r') × (after ≡ after')
step_once s part space r r' after after' p q = (once p.0 q.0, once p.1 q.1)

-- finish does what step does with the line feed that a last line lacks; with no bytes, where no line is begun
abbrev pub FinishPromise : State → List ℕ → Stepped → List ℕ → Type 0
FinishPromise s space r after = StepPromise s (closing (reader_of s)) space r after

-- any two outcomes that finish may have are equal, the answer and the space
pub finish_once : (s : State) (space : List ℕ) (r r' : Stepped) (after after' : List ℕ) → FinishPromise s space r after
    → FinishPromise s space r' after' → (r ≡ r') × (after ≡ after')
finish_once s space r r' after after' p q = step_once s (closing (reader_of s)) space r r' after after' p q
