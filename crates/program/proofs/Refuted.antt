-- Wrong outcomes that the promises do not permit.
-- Assumes nothing.
use Rattle.std.specs.Prelude.{◌≡◌, refl, Bool, true, false, List, ℕ, zero, suc, ◌-◌, ◌≤◌, ◌<◌, min, eqb, ltb, ℤ, pos, negsuc, length, take}
use Rattle.std.proofs.Common.{ap, sym, ◌∙◌, inl, inr, arith, eq-eqb, lt-ltb, le-ltb, ⊎_elim, length-take-le, ne_eqb, le-leb}
use Rattle.laws.specs.Pick.{pick}
use Rattle.io.specs.Counts.{clamp_len}
use Rattle.lines.specs.Reader.{kept_chars, reads, closing}
use Rattle.session.specs.declared.State.{State}
use Rattle.session.specs.declared.Stepped.{Stepped}
use Rattle.session.specs.Session.{width, line_tell, turn_of, reader_of, state_of, over}
use Rattle.session.specs.Promise.{step_answer, FinishPromise}
use Rattle.session.proofs.Outcome.{written_within, last_told}
use Rattle.session.proofs.Over.{reads_over}
use Rattle.program.specs.declared.Heard.{Heard}
use Rattle.program.specs.declared.Ran.{Ran}
use Rattle.program.specs.declared.Reason.{Reason}
use Rattle.program.specs.declared.Reason.TheVariants.{GoesOn, SessionOver, InputEnded, ReadFailed, WriteFailed, NoRoom}
use Rattle.program.specs.Reason.{end_reason, closes, ended, ended_space, negative, told_of, answered, unread}
use Rattle.program.specs.Hear.{hears, hears_space, HearPromise}
use Rattle.program.specs.Run.{Ends, Runs}
use Rattle.program.specs.Promise.{RunPromise}

-- of a read that failed there is one outcome
module _ (s : State) (k : ℕ) (interrupted : Bool) (input space : List ℕ) {r : Heard} {after : List ℕ}
    (p : HearPromise s (negsuc k) interrupted input space r after)
  where
    only : r ≡ unread s interrupted
    unfolding hears
    only = ⊎_elim (λ e. e) (λ f. absurd (let z : ◌≡◌ {A = ℕ} 0 1 = cc f.0 in omega arith)) p.0

-- the loop leaves fewer reads than it had, and stops where more may be read only where none is left
runs_fewer : (n : ℕ) (s : State) (r : Ran) → Runs n s r → (r.reads ≤ n - 1) × (r.reason ≡ GoesOn → r.reads ≡ 0)
runs_fewer zero s r e = (omega (arith, ap (λ (x : Ran). x.reads) e), λ z. ap (λ (x : Ran). x.reads) e)
runs_fewer (suc n) s r p = by p.0.heard (λ f. runs_fewer n p.0.heard.state r f) p.1
  where
    by : (h : Heard) → (Runs n p.0.heard.state r → (r.reads ≤ n - 1) × (r.reason ≡ GoesOn → r.reads ≡ 0))
        → Ends n h (Runs n p.0.heard.state r) r → (r.reads ≤ suc n - 1) × (r.reason ≡ GoesOn → r.reads ≡ 0)
    by h i (inl f) = (omega (arith, (i f.1).0), (i f.1).1)
    by h i (inr g) = (
      omega (arith, ap (λ (x : Ran). x.reads) g.1),
      λ z. absurd (g.0 (sym (ap (λ (x : Ran). x.reason) g.1) ∙ z)),
    )

-- what is made of a read leaves the kind of the program, and where there is room for a last text, says so
module _ (s : State) (input space : List ℕ) where
  pick_kind : (b : Bool) (x y : Heard) → x.state.kind ≡ s.kind → y.state.kind ≡ s.kind → (pick b x y).state.kind ≡ s.kind
  pick_kind true x y h k = h
  pick_kind false x y h k = k

  hears_kind : (got : ℤ) (interrupted : Bool) → (hears s got interrupted input space).state.kind ≡ s.kind
  unfolding hears ended answered told_of step_answer state_of
  hears_kind got interrupted =
      let n = clamp_len got (length input) in
      pick_kind (negative got) (unread s interrupted) (pick (eqb n 0) (ended s space) (answered s (take n input))) refl
      (pick_kind (eqb n 0) (ended s space) (answered s (take n input)) refl refl)

  heard_kind : (got : ℤ) (interrupted : Bool) {r : Heard} {after : List ℕ} → HearPromise s got interrupted input space r after
      → r.state.kind ≡ s.kind
  heard_kind got interrupted p =
      ⊎_elim (λ f. ap (λ (x : Heard). x.state.kind) f ∙ hears_kind got interrupted)
      (λ f. ap (λ (x : Heard). x.state.kind) f.1) p.0

  pick_room : (b : Bool) (x y : Heard) → (x.reason ≡ NoRoom → ⊥) → (y.reason ≡ NoRoom → ⊥) → (pick b x y).reason ≡ NoRoom → ⊥
  pick_room true x y h k = h
  pick_room false x y h k = k

  hears_room : (got : ℤ) (interrupted : Bool) → width s.kind ≤ length space → (hears s got interrupted input space).reason ≡ NoRoom → ⊥
  unfolding hears ended end_reason answered told_of
  hears_room got interrupted room =
      let n = clamp_len got (length input) in
      let part = take n input in
      let state = state_of s.kind (reads turn_of (reader_of s) part) in
      pick_room (negative got) (unread s interrupted) (pick (eqb n 0) (ended s space) (answered s part)) (again interrupted)
      (pick_room (eqb n 0) (ended s space) (answered s part)
      (λ z.
      let e : pick {A = Reason} (ltb (length space) (width s.kind)) NoRoom InputEnded ≡ InputEnded =
      rw (le-ltb (length space) (width s.kind) room) in
      cc (e, z))
      (told (over state)))
    where
      again : (b : Bool) → pick b GoesOn ReadFailed ≡ NoRoom → ⊥
      again true z = cc z
      again false z = cc z

      told : (b : Bool) → pick b SessionOver GoesOn ≡ NoRoom → ⊥
      told true z = cc z
      told false z = cc z

  heard_room : (got : ℤ) (interrupted : Bool) {r : Heard} {after : List ℕ} → width s.kind ≤ length space
      → HearPromise s got interrupted input space r after → r.reason ≡ NoRoom → ⊥
  heard_room got interrupted room p z =
      ⊎_elim (λ f. hears_room got interrupted room (ap (λ (x : Heard). x.reason) (sym f) ∙ z))
      (λ f. let e : WriteFailed ≡ NoRoom = ap (λ (x : Heard). x.reason) (sym f.1) ∙ z in cc e) p.0

-- and so does the loop
runs_kind : (n : ℕ) (s : State) (r : Ran) → Runs n s r → (r.state.kind ≡ s.kind) × (r.reason ≡ NoRoom → ⊥)
runs_kind zero s r e = (
  ap (λ (x : Ran). x.state.kind) e,
  λ z. let k : GoesOn ≡ NoRoom = ap (λ (x : Ran). x.reason) (sym e) ∙ z in cc k,
)
runs_kind (suc n) s r p =
    let t = p.0 in
    by (heard_kind s t.input t.space t.got t.interrupted t.permitted)
    (heard_room s t.input t.space t.got t.interrupted t.room t.permitted)
    (λ f. runs_kind n t.heard.state r f) p.1
  where
    by : p.0.heard.state.kind ≡ s.kind → (p.0.heard.reason ≡ NoRoom → ⊥)
        → (Runs n p.0.heard.state r → (r.state.kind ≡ p.0.heard.state.kind) × (r.reason ≡ NoRoom → ⊥))
        → Ends n p.0.heard (Runs n p.0.heard.state r) r → (r.state.kind ≡ s.kind) × (r.reason ≡ NoRoom → ⊥)
    by k w i (inl f) = ((i f.1).0 ∙ k, (i f.1).1)
    by k w i (inr g) = (
      ap (λ (x : Ran). x.state.kind) g.1 ∙ k,
      λ z. w (ap (λ (x : Ran). x.reason) (sym g.1) ∙ z),
    )

-- what the space holds at the end of the input, where a line is begun: the text at it
closed : (s : State) (space : List ℕ) {after : List ℕ} → length s.line ≡ kept_chars → s.stage ≡ 1 → (s.count ≡ 0 → ⊥)
    → width s.kind ≤ length space → after ≡ ended_space s space
    → take (length (line_tell s.kind s.keys (take s.count s.line))) after
    ≡ line_tell s.kind s.keys (take s.count s.line)
unfolding ended_space
closed s space {after} size stage begun room e =
    let r : Stepped = step_answer s (closing (reader_of s)) (closes s (length space)) in
    let p : FinishPromise s space r after = (refl, e) in
    let text = line_tell s.kind s.keys (take s.count s.line) in
    let told : take r.written after ≡ text = last_told s space size stage begun room p in
    let n : r.written ≡ length text =
    sym (length-take-le r.written after (written_within s (closing (reader_of s)) space p)) ∙ ap length told in
    ap (λ (m : ℕ). take m after) (sym n) ∙ told

-- a read that failed, taken for anything else: for the end of the input, or to be made again
pub failure_not_told : (s : State) (k : ℕ) (input space : List ℕ) (r : Heard) (after : List ℕ)
    → HearPromise s (negsuc k) false input space r after → (r.reason ≡ ReadFailed → ⊥) → ⊥
failure_not_told s k input space r after p w = w (ap (λ (x : Heard). x.reason) (only s k false input space p))

-- the line that is begun then, answered in the space
pub half_line_answered : (s : State) (k : ℕ) (interrupted : Bool) (input space : List ℕ) (r : Heard) (after : List ℕ)
    → HearPromise s (negsuc k) interrupted input space r after → (after ≡ space → ⊥) → ⊥
unfolding hears_space
half_line_answered s k interrupted input space r after p w = w p.1

-- a read that was only interrupted, and ends the program
pub interrupted_and_ended : (s : State) (k : ℕ) (input space : List ℕ) (r : Heard) (after : List ℕ)
    → HearPromise s (negsuc k) true input space r after → (r.reason ≡ GoesOn → ⊥) → ⊥
interrupted_and_ended s k input space r after p w = w (ap (λ (x : Heard). x.reason) (only s k true input space p))

-- a program that goes on though the key line was refused
pub goes_on_when_over : (s : State) (k : ℕ) (interrupted : Bool) (input space : List ℕ) (r : Heard) (after : List ℕ) → 2 ≤ s.stage
    → 1 ≤ length input → HearPromise s (pos (suc k)) interrupted input space r after → r.reason ≡ GoesOn → ⊥
unfolding hears answered told_of over state_of reader_of
goes_on_when_over s k interrupted input space r after h some p e =
    let n = min (suc k) (length input) in
    let part = take n input in
    let came : n ≡ 0 → ⊥ = λ z. omega arith in
    let stays = reads_over (reader_of s) part h in
    ⊎_elim
    (λ f.
    let c : r.reason ≡ SessionOver =
    ap (λ (x : Heard). x.reason) f ∙ rw (ne_eqb n 0 came, le-leb 2 (reads turn_of (reader_of s) part).session.stage stays) in
    cc (c, e))
    (λ f. let c : r.reason ≡ WriteFailed = ap (λ (x : Heard). x.reason) f.1 in cc (c, e))
    p.0

-- a run that is another program's: send's, where check is to run, or the other way round
pub other_program_run : (kind reads : ℕ) (r : Ran) → RunPromise kind reads r → (r.state.kind ≡ kind → ⊥) → ⊥
unfolding state_of
other_program_run kind reads r p w = w ((runs_kind reads p.0 r p.2).0 ∙ ap (λ (x : State). x.kind) p.1)

-- one in which there was no room for a last text
pub no_room_lent : (kind reads : ℕ) (r : Ran) → RunPromise kind reads r → r.reason ≡ NoRoom → ⊥
no_room_lent kind reads r p z = (runs_kind reads p.0 r p.2).1 z

-- a loop that stops, saying that more may be read, with reads left
pub stopped_early : (kind reads : ℕ) (r : Ran) → RunPromise kind reads r → r.reason ≡ GoesOn → 1 ≤ r.reads → ⊥
stopped_early kind reads r p e h = omega (arith, (runs_fewer reads p.0 r p.2).1 e)

-- one that hands back as many reads as it had, as where none was made
pub no_read_counted : (kind reads : ℕ) (r : Ran) → RunPromise kind reads r → 1 ≤ reads → reads ≤ r.reads → ⊥
no_read_counted kind reads r p h k = omega (arith, (runs_fewer reads p.0 r p.2).0)

-- a last line without its line feed that is lost at the end of the input: where the text at it belongs stands something else
pub last_line_lost : (s : State) (interrupted : Bool) (input space : List ℕ) (r : Heard) (after : List ℕ) → length s.line ≡ kept_chars
    → s.stage ≡ 1 → (s.count ≡ 0 → ⊥) → width s.kind ≤ length space → HearPromise s (pos 0) interrupted input space r after
    → (take (length (line_tell s.kind s.keys (take s.count s.line))) after
    ≡ line_tell s.kind s.keys (take s.count s.line)
    → ⊥)
    → ⊥
unfolding hears_space
last_line_lost s interrupted input space r after size stage begun room p w =
    let n : min 0 (length input) ≡ 0 = omega arith in
    let is : after ≡ ended_space s space = p.1 ∙ rw (eq-eqb (min 0 (length input)) 0 n) in
    w (closed s space size stage begun room is)

-- or that is lost in silence for want of room
pub lost_without_room : (s : State) (interrupted : Bool) (input space : List ℕ) (r : Heard) (after : List ℕ)
    → length space < width s.kind → HearPromise s (pos 0) interrupted input space r after → r.reason ≡ InputEnded → ⊥
unfolding hears ended end_reason
lost_without_room s interrupted input space r after h p e =
    let n : min 0 (length input) ≡ 0 = omega arith in
    ⊎_elim
    (λ f.
    let k : r.reason ≡ NoRoom =
    ap (λ (x : Heard). x.reason) f ∙ rw (eq-eqb (min 0 (length input)) 0 n, lt-ltb (length space) (width s.kind) h) in
    cc (k, e))
    (λ f. let k : r.reason ≡ WriteFailed = ap (λ (x : Heard). x.reason) f.1 in cc (k, e))
    p.0
