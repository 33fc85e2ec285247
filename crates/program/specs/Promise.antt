-- What the public functions of this crate promise, and that each promise leaves one outcome. What a read brings and whether a write fails
-- no contract can see. So of `hear` any two outcomes with the same reason are equal, which tells where a write failed; and of `run` any
-- two at whose turns the same was made of the reads.
-- Assumes nothing.
use Rattle.std.specs.Prelude.{◌≡◌, refl, Bool, true, false, ◌⊎◌, List, ℕ, eqb, ltb, ℤ, length, take}
use Rattle.std.proofs.Common.{ap, sym, ◌∙◌, inl, inr}
use Rattle.laws.specs.Pick.{pick}
use Rattle.laws.proofs.Once.{once}
use Rattle.io.specs.Counts.{clamp_len}
use Rattle.lines.specs.Reader.{reads}
use Rattle.session.specs.declared.State.{State}
use Rattle.session.specs.Session.{width, turn_of, reader_of, state_of, over}
use Rattle.session.specs.Promise.{BeginPromise}
use Rattle.program.specs.declared.Heard.{Heard}
use Rattle.program.specs.declared.Ran.{Ran}
use Rattle.program.specs.declared.Reason.TheVariants.{GoesOn, SessionOver, InputEnded, WriteFailed, NoRoom}
use Rattle.program.specs.Reason.{negative, told_of, answered, end_reason, ended, unwritten}
use Rattle.program.specs.Hear.{hears, hears_space, HearPromise}
use Rattle.program.specs.Run.{Runs, heard_in, heard_once}

-- what is made of a read that did not fail is told apart from a write that failed
answered_not : (s : State) (part : List ℕ) → (answered s part).reason ≡ WriteFailed → ⊥
unfolding answered told_of
answered_not s part e = by (over (state_of s.kind (reads turn_of (reader_of s) part))) e
  where
    by : (b : Bool) → pick b SessionOver GoesOn ≡ WriteFailed → ⊥
    by true e = cc e
    by false e = cc e

ended_not : (s : State) (space : List ℕ) → (ended s space).reason ≡ WriteFailed → ⊥
unfolding ended end_reason
ended_not s space e = by (ltb (length space) (width s.kind)) e
  where
    by : (b : Bool) → pick b NoRoom InputEnded ≡ WriteFailed → ⊥
    by true e = cc e
    by false e = cc e

not_unwritten : (s : State) (got : ℤ) (interrupted : Bool) (input space : List ℕ) → negative got ≡ false
    → (hears s got interrupted input space).reason ≡ WriteFailed → ⊥
unfolding hears
not_unwritten s got interrupted input space h e =
    let part = take (clamp_len got (length input)) input in
    by (eqb (clamp_len got (length input)) 0) (answered s part) (answered_not s part) (rw h at e)
  where
    by : (b : Bool) (a : Heard) → (a.reason ≡ WriteFailed → ⊥) → (pick b (ended s space) a).reason ≡ WriteFailed → ⊥
    by true a w e = ended_not s space e
    by false a w e = w e

-- hear has an outcome for every input
pub hear_some : (s : State) (got : ℤ) (interrupted : Bool) (input space : List ℕ)
    → (r : Heard) × (after : List ℕ) × HearPromise s got interrupted input space r after
hear_some s got interrupted input space = (hears s got interrupted input space, hears_space s got input space, (inl refl, refl))

-- any two outcomes that hear may have with the same reason are equal, the answer and the space
pub hear_once : (s : State) (got : ℤ) (interrupted : Bool) (input space : List ℕ) (r r' : Heard) (after after' : List ℕ)
    → HearPromise s got interrupted input space r after → HearPromise s got interrupted input space r' after'
    → r.reason ≡ r'.reason → (r ≡ r') × (after ≡ after')
hear_once s got interrupted input space r r' after after' p q e = (by p.0 q.0, once p.1 q.1)
  where
    differs : (x y : Heard) → x ≡ hears s got interrupted input space → negative got ≡ false → y ≡ unwritten s → x.reason ≡ y.reason → ⊥
    differs x y f h g k =
        not_unwritten s got interrupted input space h
        (sym (ap (λ (z : Heard). z.reason) f) ∙ k ∙ ap (λ (z : Heard). z.reason) g)

    by : (r ≡ hears s got interrupted input space) ⊎ ((negative got ≡ false) × (r ≡ unwritten s))
        → (r' ≡ hears s got interrupted input space) ⊎ ((negative got ≡ false) × (r' ≡ unwritten s)) → r ≡ r'
    by (inl f) (inl g) = once f g
    by (inl f) (inr g) = absurd (differs r r' f g.0 g.1 e)
    by (inr f) (inl g) = absurd (differs r' r g f.0 f.1 (sym e))
    by (inr f) (inr g) = once f.1 g.1

-- run hands back how the loop ended, and the state at its end, from the start of a program of a kind on
abbrev pub RunPromise : ℕ → ℕ → Ran → Type 0
RunPromise kind reads r = (s : State) × BeginPromise kind s × Runs reads s r

-- any two outcomes that run may have are equal, where at their turns the same was made of the reads
pub run_once : (kind reads : ℕ) (r r' : Ran) (p : RunPromise kind reads r) (q : RunPromise kind reads r')
    → heard_in reads p.0 r p.2 ≡ heard_in reads q.0 r' q.2 → r ≡ r'
run_once kind reads r r' p q e = heard_once reads p.0 q.0 r r' (once p.1 q.1) p.2 q.2 e
