-- Once the key line is refused nothing more is said.
-- Assumes nothing.
use Rattle.std.specs.Prelude.{◌≡◌, refl, Bool, true, false, List, [], ◌∷◌, ◌++◌, ℕ, ◌≤◌, eqb}
use Rattle.std.proofs.Common.{ap₂, arith, ne_eqb}
use Rattle.lines.specs.Lines.{line_feed}
use Rattle.lines.specs.Reader.{Reader, next, reads, says, said}
use Rattle.session.specs.Session.{Session, turn_of, tell_of}

over_turn : (a : Session) (line : List ℕ) → 2 ≤ a.stage → turn_of a line ≡ a
unfolding turn_of
over_turn a line h = rw (ne_eqb a.stage 0 (λ z. omega arith))

over_tell : (kind : ℕ) (a : Session) (line : List ℕ) → 2 ≤ a.stage → tell_of kind a line ≡ []
unfolding tell_of
over_tell kind a line h = rw (ne_eqb a.stage 0 (λ z. omega arith), ne_eqb a.stage 1 (λ z. omega arith))

-- at a character
over_says : (kind : ℕ) (r : Reader Session) (c : ℕ) → 2 ≤ r.session.stage → (b : Bool) → eqb c line_feed ≡ b
    → says (tell_of kind) r c ≡ []
unfolding says
over_says kind r c h true e = rw e (over_tell kind r.session r.line h)
over_says kind r c h false e = rw e

over_next : (r : Reader Session) (c : ℕ) → 2 ≤ r.session.stage → (b : Bool) → eqb c line_feed ≡ b
    → 2 ≤ (next turn_of r c).session.stage
unfolding next
over_next r c h true e = rw (e, over_turn r.session r.line h) h
over_next r c h false e = rw e h

-- over some characters
pub said_over_is : (kind : ℕ) (r : Reader Session) (p : List ℕ) → 2 ≤ r.session.stage → said turn_of (tell_of kind) r p ≡ []
unfolding said
said_over_is kind r [] h = refl
said_over_is kind r (c ∷ p) h =
    ap₂ (λ (x y : List ℕ). x ++ y) (over_says kind r c h (eqb c line_feed) refl)
    (said_over_is kind (next turn_of r c) p (over_next r c h (eqb c line_feed) refl))

pub reads_over : (r : Reader Session) (p : List ℕ) → 2 ≤ r.session.stage → 2 ≤ (reads turn_of r p).session.stage
unfolding reads
reads_over r [] h = h
reads_over r (c ∷ p) h = reads_over (next turn_of r c) p (over_next r c h (eqb c line_feed) refl)
