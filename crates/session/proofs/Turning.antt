-- One turn of the step: a part that ends before the line does, a line that is answered, and lines that are read where they lie.
-- Assumes nothing.
use Rattle.std.specs.Prelude.{◌≡◌, refl, List, [], ◌++◌, ℕ, ◌+◌, ◌-◌, ◌≤◌, ◌<◌, length, take, drop}
use Rattle.std.proofs.Common.{ap, ◌∙◌, arith, ap₂}
use Rattle.keys.specs.declared.KeySet.{KeySet}
use Rattle.lines.specs.declared.Gathered.{Gathered}
use Rattle.lines.specs.Reader.{kept_chars, kept_line, Reader}
use Rattle.lines.specs.Gather.{longer, gathered, line_end}
use Rattle.lines.specs.Moves.{Wrote}
use Rattle.lines.proofs.Tidied.{laid_length, laid_front}
use Rattle.lines.proofs.Reader.{kept_most}
use Rattle.lines.proofs.Moving.{line_within, moves_none, moves_as, moves_on, moves_part, moves_line}
use Rattle.session.specs.declared.State.{State}
use Rattle.session.specs.declared.Told.{Told}
use Rattle.session.specs.declared.Stepped.{Stepped}
use Rattle.session.specs.Session.{Session, width, session_of, line_tell, turn_of, tell_of, reader_of, state_of}
use Rattle.session.specs.Inner.{TellsLine, Tidy, Passes, Ready, Turned, Within, between, Passed}
use Rattle.session.proofs.States.{state_kept, state_between, made_reader, made_kind, made_tidy}
use Rattle.session.proofs.Telling.{tell_most, wrote_behind}
use Rattle.session.proofs.Whole.{tell_kept}

-- what was gathered lies within its array
pub gathered_within : (line : List ℕ) (count : ℕ) (more : List ℕ) {g : Gathered} → g ≡ gathered line count more
    → g.count ≤ length g.line
unfolding gathered
gathered_within line count more {g} e =
    let l = longer line count more in
    let n : g.count ≡ length l = ap (λ (x : Gathered). x.count) e in
    let m : length g.line ≡ kept_chars = ap (λ (x : Gathered). length x.line) e ∙ laid_length l in
    omega (arith, n, m, kept_most (take count line ++ more))

module _ (u : Stepped) (part space : List ℕ) where
  -- the state that the turn begins with, and how much was taken and written before
  abbrev s : State
  s = u.state

  abbrev at : ℕ
  at = u.taken

  abbrev out : ℕ
  out = u.written

  -- a turn, by the reader that its state is made of
  turned_by : (r : Stepped) {after : List ℕ} (t : Reader Session) → length t.line ≤ kept_chars → r.state ≡ state_of s.kind t
      → at < r.taken → Passes s.kind part (reader_of s) at out space t r.taken r.written after → Turned u part space r after
  turned_by r t h e some m = record {
    kind = made_kind s.kind t h e;
    tidy = made_tidy s.kind t h e;
    some = some;
    moves = moves_as turn_of (tell_of s.kind) (width s.kind) part refl (made_reader s.kind t h e) m;
  }

  module _
      {end : ℕ}
      {g : Gathered}
      (ready : Ready u part space)
      (stop : end ≡ line_end part at)
      (eg : g ≡ gathered s.line s.count (take (end - at) (drop at part)))
    where
      -- what is kept of the line with what the part has of it
      abbrev line : List ℕ
      line = kept_line (take s.count s.line ++ take (end - at) (drop at part))

      kept : length (reader_of s).line ≤ kept_chars
      kept = state_kept s ready.tidy.size

      most : at ≤ length part
      most = omega (arith, ready.more)

      -- the part ends before the line does
      pub turned_part : length part ≤ end
          → Turned u part space
          (record {
            state = record { kind = s.kind; stage = s.stage; keys = s.keys; line = g.line; count = g.count };
            taken = end;
            written = out;
          })
          space
      unfolding gathered reader_of state_of
      turned_part past =
          let t : Reader Session = record { session = session_of s.stage s.keys; line = line } in
          let state : State = record { kind = s.kind; stage = s.stage; keys = s.keys; line = g.line; count = g.count } in
          let e : state ≡ state_of s.kind t =
          λ i. record { kind = s.kind; stage = s.stage; keys = s.keys; line = (eg i).line; count = (eg i).count } in
          turned_by (record { state = state; taken = end; written = out }) t
          (kept_most (take s.count s.line ++ take (end - at) (drop at part))) e (omega (arith, ready.more))
          (moves_part turn_of (tell_of s.kind) (width s.kind) part (reader_of s) at out space kept ready.room stop most past)

      -- the line as it was gathered
      gathered_line : take g.count g.line ≡ line
      unfolding gathered
      gathered_line =
          ap₂ (λ (k : ℕ) (x : List ℕ). take k x) (ap (λ (x : Gathered). x.count) eg) (ap (λ (x : Gathered). x.line) eg)
          ∙ laid_front line (kept_most (take s.count s.line ++ take (end - at) (drop at part)))

      -- it is answered, in what is left of the space
      pub turned_line : {t : Told} {state : State} {x : List ℕ} → end < length part
          → TellsLine s.kind (session_of s.stage s.keys) (take g.count g.line) (take (length space - out) (drop out space)) t x
          → state ≡ state_of s.kind (record { session = session_of t.stage t.keys; line = [] })
          → Turned u part space (record { state = state; taken = end + 1; written = out + t.written })
          (take out space ++ (x ++ drop (length space - out) (drop out space)))
      unfolding reader_of
      turned_line {t} {state} within tells es =
          let a = session_of s.stage s.keys in
          let told = rw gathered_line at tells in
          let room : out + length (tell_of s.kind a line) ≤ length space = omega (arith, ready.room, tell_most s.kind a line) in
          let w = wrote_behind (tell_of s.kind a line) space out room told.text in
          let behind : Reader Session = record { session = turn_of a line; line = [] } in
          let h = (line_within part at stop most).0 in
          turned_by (record { state = state; taken = end + 1; written = out + t.written }) behind (omega arith)
          (es ∙ ap (λ (x : Session). state_of s.kind (record { session = x; line = [] })) told.session) (omega (arith, h))
          (moves_line turn_of (tell_of s.kind) (width s.kind) part (reader_of s) at out space kept ready.room stop within w
          (omega (arith, w.size, tell_most s.kind a line)) h)

-- lines that are read where they lie: one more
module _
    (kind : ℕ)
    (keys : KeySet)
    (part : List ℕ)
    {at out i o : ℕ}
    {space now : List ℕ}
    (m : Passes kind part (between keys) at out space (between keys) i o now)
  where
    pub passes_line : {end n : ℕ} {x : List ℕ} → o + width kind ≤ length now → end ≡ line_end part i → end < length part
        → Wrote (line_tell kind keys (take (end - i) (drop i part))) (take (length now - o) (drop o now)) 0 n x
        → Passes kind part (between keys) at out space (between keys) (end + 1) (o + n)
        (take o now ++ (x ++ drop (length now - o) (drop o now)))
    unfolding turn_of tell_of
    passes_line {end} {n} {x} room stop within w =
        let a = session_of 1 keys in
        let lent = take (end - i) (drop i part) in
        let text = tell_of kind a (kept_line lent) in
        let fits : o + length text ≤ length now = omega (arith, room, tell_most kind a (kept_line lent)) in
        let w' = wrote_behind text now o {n = n} {x = x} fits (rw (tell_kept kind a lent) w) in
        let h = (line_within part i stop m.most).0 in
        moves_on turn_of (tell_of kind) (width kind) part m
        (moves_line turn_of (tell_of kind) (width kind) part (between keys) i o now (omega arith) room stop within w'
        (omega (arith, w'.size, tell_most kind a (kept_line lent))) h)

module _ (t : Stepped) (part space : List ℕ) (d : Tidy t.state) where
  -- the kind of the program
  abbrev k : ℕ
  k = t.state.kind

  -- a turn that is not gone on with
  pub passed_none : Within t part space → Passed t part space t space
  passed_none w = record {
    same = refl;
    tidy = d;
    forth = omega arith;
    moves = moves_none turn_of (tell_of k) (width k) part (reader_of t.state) t.taken t.written space w.most w.room;
  }

  -- and one that is, by lines that lie whole in the part: none yet, and some
  pub passes_none : Within t part space
      → Passes k part (between t.state.keys) t.taken t.written space (between t.state.keys) t.taken t.written space
  passes_none w = moves_none turn_of (tell_of k) (width k) part (between t.state.keys) t.taken t.written space w.most w.room

  pub passed_lines : {at out : ℕ} {after : List ℕ} → t.state.stage ≡ 1 → t.state.count ≡ 0
      → Passes k part (between t.state.keys) t.taken t.written space (between t.state.keys) at out after
      → Passed t part space (record { state = t.state; taken = at; written = out }) after
  passed_lines e z m =
      let b = state_between t.state e z in
      record {
        same = refl;
        tidy = d;
        forth = omega (arith, m.at_is);
        moves = moves_as turn_of (tell_of k) (width k) part b b m;
      }
