-- The step's loop, turn by turn: from its start, by one turn more, to its end.
-- Assumes nothing.
use Rattle.std.specs.Prelude.{◌≡◌, refl, ◌⊎◌, List, [], ◌∷◌, ◌++◌, ℕ, ◌-◌, ◌≤◌, ◌<◌, length, take, drop}
use Rattle.std.proofs.Common.{ap, sym, ◌∙◌, arith, ap₂, ⊎_elim, drop_of_length-le}
use Rattle.lines.specs.Lines.{line_feed}
use Rattle.lines.specs.Reader.{kept_chars, Reader, reads, said, takes}
use Rattle.lines.proofs.Reader.{takes_none}
use Rattle.lines.proofs.Moving.{moves_none, moves_length, moves_on}
use Rattle.session.specs.declared.State.{State}
use Rattle.session.specs.declared.Stepped.{Stepped}
use Rattle.session.specs.Session.{Session, width, turn_of, tell_of, reader_of, state_of}
use Rattle.session.specs.Inner.{Tidy, Passes, Ready, Turned, Within, Passed}
use Rattle.session.specs.Promise.{taken_of, said_over, step_answer, StepPromise, FinishPromise}
use Rattle.session.proofs.States.{state_kept, made_reader, made_kind, made_tidy, closing_none, closing_feed}
use Rattle.session.proofs.Telling.{width_some}

-- the turn at the start of a part, and where the lines that lie whole there lead
abbrev begins : State → Stepped
begins s = record { state = s; taken = 0; written = 0 }

pub begins_within : (s : State) (part space : List ℕ) → Within (begins s) part space
begins_within s part space = record { most = omega arith; room = omega arith }

-- the loop so far: the state is tidy and of the same kind, and its reader has come here from where the loop began
pub record Stepping (b : Stepped) (part space : List ℕ) (t : Stepped) (now : List ℕ) : Type 0 where
  pub kind : t.state.kind ≡ b.state.kind
  pub tidy : Tidy t.state
  pub moves : Passes b.state.kind part (reader_of b.state) b.taken b.written space (reader_of t.state) t.taken t.written now

-- where it begins
pub stepping_none : (b : Stepped) (part : List ℕ) (space : List ℕ) → Tidy b.state → Within b part space → Stepping b part space b space
stepping_none b part space d w =
    let k = b.state.kind in
    record {
      kind = refl;
      tidy = d;
      moves = moves_none turn_of (tell_of k) (width k) part (reader_of b.state) b.taken b.written space w.most w.room;
    }

-- a move that stays within the part and the space
pub passes_within : (kind : ℕ) (t : Stepped) {part space now : List ℕ} {r r' : Reader Session} {at out : ℕ}
    → Passes kind part r at out space r' t.taken t.written now → Within t part now
passes_within kind t {part} m = record {
  most = m.most;
  room = omega (arith, m.room, moves_length turn_of (tell_of kind) (width kind) part m);
}

module _ {b : Stepped} {part space now : List ℕ} {t : Stepped} (v : Stepping b part space t now) where
  -- the kind of the program, and the width of its texts
  abbrev k : ℕ
  k = b.state.kind

  -- the space is as long as it was
  pub stepping_length : length now ≡ length space
  stepping_length = moves_length turn_of (tell_of k) (width k) part v.moves

  module _ {most : ℕ} (w : most ≡ width k) where
    -- a turn may be taken
    pub stepping_ready : t.taken < length part → most ≤ length now - t.written → Ready t part now
    stepping_ready more room = record {
      tidy = v.tidy;
      more = more;
      room = omega (arith, room, w, width_some k, ap width v.kind);
    }

    -- or the part is at its end, or there is no room for another text, so that nothing more is taken
    pub none_left : (length part ≤ t.taken) ⊎ (length now - t.written < most)
        → takes turn_of (tell_of k) (width k) (reader_of t.state) (length now - t.written) (drop t.taken part) ≡ 0
    unfolding takes
    none_left h =
        ⊎_elim (λ l. rw (drop_of_length-le part l))
        (λ l.
        takes_none turn_of (tell_of k) (width k) (reader_of t.state) (length now - t.written) (drop t.taken part) (omega (arith, l, w)))
        h

  -- a turn is taken
  module _ {t₁ : Stepped} {now₁ : List ℕ} (u : Turned t part now t₁ now₁) where
    -- and gone on with
    module _ {t₂ : Stepped} {now₂ : List ℕ} (p : Passed t₁ part now₁ t₂ now₂) where
      pub stepping_more : Stepping b part space t₂ now₂
      unfolding reader_of
      stepping_more =
          let one = u.kind ∙ v.kind in
          let turned = rw v.kind at u.moves in
          let passed = rw one at p.moves in
          record {
            kind = ap (λ (x : State). x.kind) p.same ∙ one;
            tidy = p.tidy;
            moves = moves_on turn_of (tell_of k) (width k) part v.moves (moves_on turn_of (tell_of k) (width k) part turned passed);
          }

-- from the start of the part to where nothing more is taken: it is the step's outcome
step_all : {s : State} {part space now : List ℕ} {t : Stepped} → Stepping (begins s) part space t now
    → takes turn_of (tell_of s.kind) (width s.kind) (reader_of t.state) (length now - t.written) (drop t.taken part) ≡ 0
    → StepPromise s part space t now
unfolding taken_of said_over step_answer
step_all {s} {part} {space} {now} {t} v none =
    let m = v.moves in
    let tell = tell_of s.kind in
    let w = width s.kind in
    let start : length space - 0 ≡ length space = omega arith in
    let size : length now ≡ length space = stepping_length v in
    let left : takes turn_of tell w (reader_of t.state) (length space - t.written) (drop t.taken part) ≡ 0 =
    ap (λ (k : ℕ). takes turn_of tell w (reader_of t.state) (k - t.written) (drop t.taken part)) (sym size) ∙ none in
    let n : m.taken ≡ takes turn_of tell w (reader_of s) (length space) part =
    sym (ap (λ (k : ℕ). takes turn_of tell w (reader_of s) k part) (sym start) ∙ m.goes_on ∙ omega (arith, left)) in
    let over : said turn_of tell (reader_of s) (take m.taken part)
    ≡ said turn_of tell (reader_of s) (take (takes turn_of tell w (reader_of s) (length space) part) part) =
    ap (λ (k : ℕ). said turn_of tell (reader_of s) (take k part)) n in
    let state-is =
    v.tidy.same ∙ ap₂ state_of v.kind m.reader_is
    ∙ ap (λ (k : ℕ). state_of s.kind (reads turn_of (reader_of s) (take k part))) n in
    let at_is : t.taken ≡ takes turn_of tell w (reader_of s) (length space) part = omega (arith, m.at_is, n) in
    let out_is : t.written ≡ length (said turn_of tell (reader_of s) (take m.taken part)) = omega (arith, m.out_is) in
    let written_is = out_is ∙ ap length over in (
      λ i. record { state = state-is i; taken = at_is i; written = written_is i },
      m.space_is ∙ (λ i. over i ++ drop (written_is i) space),
    )

-- where the loop began behind the lines that lie whole at the start of the part
step_passed : {s : State} {part space₀ space now : List ℕ} {b t : Stepped} → Passed (begins s) part space₀ b space
    → Stepping b part space t now → Stepping (begins s) part space₀ t now
unfolding reader_of
step_passed {s} {part} p v =
    let same = ap (λ (x : State). x.kind) p.same in
    record {
      kind = v.kind ∙ same;
      tidy = v.tidy;
      moves = moves_on turn_of (tell_of s.kind) (width s.kind) part p.moves (rw same at v.moves);
    }

pub step_whole : {s : State} {part space₀ space now : List ℕ} {b t : Stepped} → Passed (begins s) part space₀ b space
    → Stepping b part space t now
    → takes turn_of (tell_of b.state.kind) (width b.state.kind) (reader_of t.state) (length now - t.written) (drop t.taken part) ≡ 0
    → StepPromise s part space₀ t now
step_whole {s} {part} {space₀} {space} {now} {b} {t} p v none =
    let same = ap (λ (x : State). x.kind) p.same in
    let left : ℕ → ℕ = λ (k : ℕ). takes turn_of (tell_of k) (width k) (reader_of t.state) (length now - t.written) (drop t.taken part) in
    step_all (step_passed p v) (ap left (sym same) ∙ none)

-- a state made tidy is tidy, and its step is the state's
module _ (s : State) {s' : State} (size : length s.line ≡ kept_chars) (e : s' ≡ state_of s.kind (reader_of s)) where
  pub tidied_tidy : Tidy s'
  tidied_tidy = made_tidy s.kind (reader_of s) (state_kept s size) e

  pub tidied_kind : s'.kind ≡ s.kind
  tidied_kind = made_kind s.kind (reader_of s) (state_kept s size) e

  pub tidied_step : (part space : List ℕ) {now : List ℕ} {r : Stepped} → StepPromise s' part space r now → StepPromise s part space r now
  unfolding taken_of said_over step_answer
  tidied_step part space p = rw (made_reader s.kind (reader_of s) (state_kept s size) e, tidied_kind) at p

-- a step over what a state lacks is the end of the input: no bytes where no line is begun, otherwise a line feed
module _ (s : State) (space : List ℕ) {r : Stepped} {after : List ℕ} where
  pub finish_none : s.count ≡ 0 → StepPromise s [] space r after → FinishPromise s space r after
  finish_none z p = rw (closing_none s z) p

  pub finish_feed : length s.line ≡ kept_chars → (s.count ≡ 0 → ⊥) → StepPromise s (line_feed ∷ []) space r after
      → FinishPromise s space r after
  finish_feed size h p = rw (closing_feed s size h) p
