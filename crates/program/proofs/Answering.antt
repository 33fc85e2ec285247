-- A part answered step by step: what a step moves on, from the start to the end of the part.
-- Assumes nothing.
use Rattle.std.specs.Prelude.{◌≡◌, refl, List, ℕ, ◌+◌, ◌-◌, ◌≤◌, ◌<◌, length, take, drop}
use Rattle.std.proofs.Common.{ap, sym, ◌∙◌, arith, length-drop, take_all, take-add, drop-drop}
use Rattle.laws.proofs.Lent.{lent_rest}
use Rattle.lines.specs.Reader.{kept_chars, Reader, reads}
use Rattle.lines.proofs.Reader.{reads_append, reads_kept}
use Rattle.session.specs.declared.State.{State}
use Rattle.session.specs.declared.Stepped.{Stepped}
use Rattle.session.specs.Session.{Session, width, turn_of, reader_of, state_of}
use Rattle.session.specs.Promise.{StepPromise}
use Rattle.session.proofs.Outcome.{taken_most, taken_some, written_within, state_after}
use Rattle.session.proofs.States.{state_kept, made_reader, made_kind, made_tidy}
use Rattle.program.specs.declared.Heard.{Heard}
use Rattle.program.specs.Reason.{told_of, answered}

-- what is left of the part is what stands behind the bytes that are answered: the state is of the same kind, its reader is the definition's
-- after these, and once a step is taken it is tidy
pub record Answering (s : State) (part : List ℕ) (state : State) (rest : List ℕ) : Type 0 where
  pub at : ℕ
  pub left : rest ≡ drop at part
  pub kind : state.kind ≡ s.kind
  pub size : length state.line ≡ kept_chars
  pub reader : reader_of state ≡ reads turn_of (reader_of s) (take at part)
  pub tidy : 1 ≤ at → state ≡ state_of s.kind (reader_of state)

pub answering_none : (s : State) (part : List ℕ) → length s.line ≡ kept_chars → Answering s part s part
unfolding reads
answering_none s part size = record {
  at = 0;
  left = refl;
  kind = refl;
  size = size;
  reader = refl;
  tidy = λ h. absurd (omega arith);
}

-- a step on what is left of the part, with room for a text
module _
    {s : State}
    {part : List ℕ}
    {state : State}
    {rest : List ℕ}
    (v : Answering s part state rest)
    (space : List ℕ)
    (room : width s.kind ≤ length space)
    (more : length rest ≡ 0 → ⊥)
    {r : Stepped}
    {after : List ℕ}
    (p : StepPromise state rest space r after)
  where
    -- some bytes more are taken, none of them beyond the part's end
    pub step_some : 1 ≤ r.taken
    step_some = taken_some state rest space p (rw v.kind room) (omega (arith, more))

    pub step_most : r.taken ≤ length rest
    step_most = taken_most state rest space p

    -- what was written lies within the space
    pub step_within : r.written ≤ length after
    step_within = written_within state rest space p

    pub answering_more : Answering s part r.state (take (length rest - r.taken) (drop r.taken rest))
    answering_more =
        let q = take r.taken rest in
        let kept = reads_kept turn_of (reader_of state) q (state_kept state v.size) in
        let made : r.state ≡ state_of s.kind (reads turn_of (reader_of state) q) =
        state_after state rest space p ∙ ap (λ (k : ℕ). state_of k (reads turn_of (reader_of state) q)) v.kind in
        let same = made_kind s.kind (reads turn_of (reader_of state) q) kept made in
        let d = made_tidy s.kind (reads turn_of (reader_of state) q) kept made in
        record {
          at = v.at + r.taken;
          left = lent_rest rest r.taken ∙ ap (drop r.taken) v.left ∙ drop-drop r.taken v.at part;
          kind = same;
          size = d.size;
          reader =
              made_reader s.kind (reads turn_of (reader_of state) q) kept made
              ∙ ap (λ (x : List ℕ). reads turn_of (reader_of state) (take r.taken x)) v.left
              ∙ ap (λ (x : Reader Session). reads turn_of x (take r.taken (drop v.at part))) v.reader
              ∙ sym (reads_append turn_of (reader_of s) (take v.at part) (take r.taken (drop v.at part)))
              ∙ ap (reads turn_of (reader_of s)) (sym (take-add v.at r.taken part));
          tidy = λ h. d.same ∙ ap (λ (k : ℕ). state_of k (reader_of r.state)) same;
        }

    -- less of the part is left
    pub step_less : length (take (length rest - r.taken) (drop r.taken rest)) < length rest
    step_less = omega (arith, ap length (lent_rest rest r.taken), length-drop r.taken rest, step_some, more)

-- at the end of the part the state is the definition's after it, and tells whether more may be read
pub answering_all : {s : State} {part : List ℕ} {state : State} {rest : List ℕ} → Answering s part state rest → length rest ≡ 0
    → 1 ≤ length part → {r : Heard} → r ≡ told_of state → r ≡ answered s part
unfolding answered
answering_all {s} {part} v z k e =
    let past : length part ≤ v.at = omega (arith, ap length v.left, length-drop v.at part, z) in
    e
    ∙ ap told_of
    (v.tidy (omega (arith, k, past)) ∙ ap (state_of s.kind) v.reader
    ∙ ap (λ (x : List ℕ). state_of s.kind (reads turn_of (reader_of s) x)) (take_all v.at part past))
