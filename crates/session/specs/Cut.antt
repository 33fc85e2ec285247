-- An input that comes in parts: one call of step after the other, each offered some bytes and some space, of which it takes what it can.
-- Assumes nothing.
use Rattle.std.specs.Prelude.{◌≡◌, true, List, [], ◌∷◌, ◌++◌, ℕ, ◌*◌, ◌≤◌, length, take}
use Rattle.laws.specs.Joined.{joined}
use Rattle.session.specs.declared.State.{State}
use Rattle.session.specs.declared.Stepped.{Stepped}
use Rattle.session.specs.Session.{width}
use Rattle.session.specs.Promise.{BeginPromise, IsOverPromise, StepPromise, FinishPromise}

-- a call: what it was offered and lent, what it answered, and what the space held then
pub record Call : Type 0 where
  pub part : List ℕ
  pub space : List ℕ
  pub answer : Stepped
  pub after : List ℕ

-- calls one after the other, by outcomes that are permitted, from a state to another
abbrev pub Run : State → List Call → State → Type 0
Run s [] t = s ≡ t
Run s (c ∷ cs) t = StepPromise s c.part c.space c.answer c.after × Run c.answer.state cs t

-- the bytes that they took, joined
unfoldable pub taken : List Call → List ℕ
taken [] = []
taken (c ∷ cs) = take c.answer.taken c.part ++ taken cs

-- the bytes that they wrote, joined
unfoldable pub wrote : List Call → List ℕ
wrote [] = []
wrote (c ∷ cs) = take c.answer.written c.after ++ wrote cs

-- calls, each with a part of the input as it is cut, and with room for a text at each of its bytes
abbrev pub Offered : ℕ → List (List ℕ) → List Call → Type 0
Offered kind [] [] = Unit {0}
Offered kind [] (c ∷ cs) = ⊥
Offered kind (p ∷ ps) [] = ⊥
Offered kind (p ∷ ps) (c ∷ cs) = (c.part ≡ p) × (width kind * length p ≤ length c.space) × Offered kind ps cs

-- THE PROGRAM'S DEMAND, of a program of a kind and its output. However an input is cut into parts, empty ones among them, and whatever
-- room there was for the texts: what was written, with what finish writes at the end, is the output for the bytes that were taken
pub record InParts (kind : ℕ) (output : List ℕ → List ℕ) : Type 0 where
  pub joined_is : (s t : State) (calls : List Call) (space after : List ℕ) (r : Stepped) → BeginPromise kind s → Run s calls t
      → width kind ≤ length space → FinishPromise t space r after
      → wrote calls ++ take r.written after ≡ output (taken calls)
  -- so for every cut of the input, where each part has room for its texts
  pub every_cut : (parts : List (List ℕ)) (s t : State) (calls : List Call) (space after : List ℕ) (r : Stepped) → BeginPromise kind s
      → Run s calls t → Offered kind parts calls → width kind ≤ length space → FinishPromise t space r after
      → wrote calls ++ take r.written after ≡ output (joined parts)
  -- where it is over before the input ends, what was written is the output, whatever comes behind
  pub over_early : (s t : State) (calls : List Call) (rest : List ℕ) → BeginPromise kind s → Run s calls t → IsOverPromise t true
      → wrote calls ≡ output (taken calls ++ rest)
  -- each byte of a part is taken where there is room for a text at each, and at least one where there is room for one
  pub takes_all : (s : State) (part space after : List ℕ) (r : Stepped) → s.kind ≡ kind → StepPromise s part space r after
      → width kind * length part ≤ length space → r.taken ≡ length part
  pub takes_some : (s : State) (part space after : List ℕ) (r : Stepped) → s.kind ≡ kind → StepPromise s part space r after
      → width kind ≤ length space → 1 ≤ length part → 1 ≤ r.taken
