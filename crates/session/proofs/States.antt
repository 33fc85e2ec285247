-- A state and the reader that it stands for.
-- Assumes nothing.
use Rattle.std.specs.Prelude.{◌≡◌, [], ◌∷◌, ℕ, ◌≤◌, length, take}
use Rattle.std.proofs.Common.{ap, sym, ◌∙◌, arith, length-take, ap₂, ne_eqb}
use Rattle.lines.specs.Lines.{line_feed}
use Rattle.lines.specs.Reader.{kept_chars, Reader, closing}
use Rattle.lines.proofs.Tidied.{laid_length, laid_front}
use Rattle.session.specs.declared.State.{State}
use Rattle.session.specs.Session.{Session, reader_of, state_of}
use Rattle.session.specs.Inner.{Tidy, between}

-- a reader whose line is within what is kept, out of its state again
pub state_reader : (kind : ℕ) (r : Reader Session) → length r.line ≤ kept_chars → reader_of (state_of kind r) ≡ r
unfolding reader_of state_of
state_reader kind r h = let e = laid_front r.line h in λ i. record { session = r.session; line = e i }

-- the line of every state is within that, as its array is
pub state_kept : (s : State) → length s.line ≡ kept_chars → length (reader_of s).line ≤ kept_chars
unfolding reader_of
state_kept s h = omega (arith, length-take s.count s.line)

-- a state that was made of such a reader stands for it, and is tidy
module _ {s : State} (kind : ℕ) (r : Reader Session) (h : length r.line ≤ kept_chars) (e : s ≡ state_of kind r) where
  pub made_reader : reader_of s ≡ r
  made_reader = ap reader_of e ∙ state_reader kind r h

  pub made_kind : s.kind ≡ kind
  unfolding state_of
  made_kind = ap (λ (x : State). x.kind) e

  pub made_tidy : Tidy s
  unfolding state_of
  made_tidy = record {
    same = e ∙ ap₂ state_of (sym made_kind) (sym made_reader);
    size = ap (λ (x : State). length x.line) e ∙ laid_length r.line;
  }

-- a state between two lines, behind the key line
pub state_between : (s : State) → s.stage ≡ 1 → s.count ≡ 0 → reader_of s ≡ between s.keys
unfolding reader_of
state_between s e z = rw (e, z)

-- what a state lacks at the end of the input: nothing where no line is begun, otherwise a line feed
pub closing_none : (s : State) → s.count ≡ 0 → closing (reader_of s) ≡ []
unfolding closing reader_of
closing_none s z = rw z

pub closing_feed : (s : State) → length s.line ≡ kept_chars → (s.count ≡ 0 → ⊥) → closing (reader_of s) ≡ line_feed ∷ []
unfolding closing reader_of
closing_feed s size h =
    rw (ne_eqb (length (take s.count s.line)) 0 (λ z. h (omega (arith, length-take s.count s.line))))
