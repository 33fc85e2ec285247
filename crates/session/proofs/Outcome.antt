-- What the outcome of a step is: how many bytes it takes, what it writes, and the reader after it.
-- Assumes nothing.
use Rattle.std.specs.Prelude.{◌≡◌, List, [], ◌∷◌, ◌++◌, ℕ, ◌*◌, ◌≤◌, length, take, drop}
use Rattle.std.proofs.Common.{ap, ap₂, sym, ◌∙◌, append-nil, arith, length-append, length-drop}
use lib.Seq.{take-append_seam}
use Rattle.lines.specs.Lines.{line_feed}
use Rattle.lines.specs.Reader.{kept_chars, reads, said, takes, closing}
use Rattle.lines.proofs.Reader.{said_feed, takes_most, takes_some, takes_all, said_room}
use Rattle.session.specs.declared.State.{State}
use Rattle.session.specs.declared.Stepped.{Stepped}
use Rattle.session.specs.Session.{width, line_tell, turn_of, tell_of, reader_of, state_of}
use Rattle.session.proofs.States.{closing_feed}
use Rattle.session.proofs.Telling.{tell_most}
use Rattle.session.specs.Promise.{taken_of, said_over, step_answer, StepPromise, FinishPromise}

module _ (s : State) (part space : List ℕ) {r : Stepped} {after : List ℕ} (p : StepPromise s part space r after) where
  -- how many bytes are taken
  taken_is : r.taken ≡ takes turn_of (tell_of s.kind) (width s.kind) (reader_of s) (length space) part
  unfolding step_answer taken_of
  taken_is = ap (λ (x : Stepped). x.taken) p.0

  pub taken_most : r.taken ≤ length part
  taken_most = omega (arith, taken_is, takes_most turn_of (tell_of s.kind) (width s.kind) (reader_of s) (length space) part)

  pub taken_some : width s.kind ≤ length space → 1 ≤ length part → 1 ≤ r.taken
  taken_some h k = omega (arith, taken_is, takes_some turn_of (tell_of s.kind) (width s.kind) (reader_of s) (length space) part h k)

  pub taken_all : width s.kind * length part ≤ length space → r.taken ≡ length part
  taken_all h = taken_is ∙ takes_all turn_of (tell_of s.kind) (width s.kind) (tell_most s.kind) (reader_of s) (length space) part h

  -- what is said over them
  abbrev over : List ℕ
  over = said turn_of (tell_of s.kind) (reader_of s) (take r.taken part)

  over_is : said_over s part (taken_of s part (length space)) ≡ over
  unfolding said_over taken_of
  over_is = ap (λ (n : ℕ). said turn_of (tell_of s.kind) (reader_of s) (take n part)) (sym taken_is)

  pub written_is : r.written ≡ length over
  unfolding step_answer
  written_is = ap (λ (x : Stepped). x.written) p.0 ∙ ap length over_is

  after_is : after ≡ over ++ drop (length over) space
  after_is = p.1 ∙ ap (λ (x : List ℕ). x ++ drop (length x) space) over_is

  over_most : length over ≤ length space
  over_most =
      let h = said_room turn_of (tell_of s.kind) (width s.kind) (tell_most s.kind) (reader_of s) (length space) part in
      let e = ap (λ (n : ℕ). length (said turn_of (tell_of s.kind) (reader_of s) (take n part))) taken_is in
      omega (arith, h, e)

  -- it lies within the space, which is as long as it was
  pub after_length : length after ≡ length space
  after_length =
      ap length after_is ∙ length-append over (drop (length over) space) ∙ omega (arith, length-drop (length over) space, over_most)

  pub written_within : r.written ≤ length after
  written_within = omega (arith, written_is, over_most, after_length)

  -- and stands at its front
  pub written_over : take r.written after ≡ over
  written_over =
      ap (λ (n : ℕ). take n after) written_is ∙ ap (take (length over)) after_is ∙ take-append_seam over (drop (length over) space)

  -- the state is that of the reader after them
  pub state_after : r.state ≡ state_of s.kind (reads turn_of (reader_of s) (take r.taken part))
  unfolding step_answer taken_of
  state_after =
      ap (λ (x : Stepped). x.state) p.0 ∙ ap (λ (n : ℕ). state_of s.kind (reads turn_of (reader_of s) (take n part))) (sym taken_is)

-- at the end of the input, behind the key line, where a line is begun, the text at it is written
module _
    (s : State)
    (space : List ℕ)
    {r : Stepped}
    {after : List ℕ}
    (size : length s.line ≡ kept_chars)
    (stage : s.stage ≡ 1)
    (begun : s.count ≡ 0 → ⊥)
    (room : width s.kind ≤ length space)
    (p : FinishPromise s space r after)
  where
    pub last_told : take r.written after ≡ line_tell s.kind s.keys (take s.count s.line)
    unfolding said reader_of tell_of
    last_told =
        let end : closing (reader_of s) ≡ line_feed ∷ [] = closing_feed s size begun in
        let n : r.taken ≡ 1 = taken_all s (closing (reader_of s)) space p (rw end (omega (arith, room))) ∙ ap length end in
        written_over s (closing (reader_of s)) space p
        ∙ ap₂ (λ (k : ℕ) (x : List ℕ). said turn_of (tell_of s.kind) (reader_of s) (take k x)) n end
        ∙ said_feed turn_of (tell_of s.kind) (reader_of s) []
        ∙ append-nil (tell_of s.kind (reader_of s).session (reader_of s).line) ∙ rw stage
