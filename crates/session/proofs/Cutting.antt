-- An input in parts, call by call: what was written is what the reader says over the bytes that were taken.
-- Assumes nothing.
use Rattle.std.specs.Prelude.{◌≡◌, refl, Bool, true, false, List, [], ◌∷◌, ◌++◌, ℕ, zero, suc, ◌*◌, ◌≤◌, eqb, length, take}
use Rattle.std.proofs.Common.{ap, ap₂, sym, ◌∙◌, append-nil, arith, take_all, leb-true}
use Rattle.laws.specs.Joined.{joined}
use Rattle.laws.specs.Pick.{pick}
use Rattle.lines.specs.Lines.{line_feed}
use Rattle.lines.specs.Reader.{kept_chars, Reader, reads, said, closing}
use Rattle.lines.proofs.Reader.{reads_append, said_append, reads_kept}
use Rattle.session.specs.declared.State.{State}
use Rattle.session.specs.declared.Stepped.{Stepped}
use Rattle.session.specs.Output.{check_output, send_output}
use Rattle.session.specs.Session.{Session, send_kind, width, begun, turn_of, tell_of, reader_of, state_of, over}
use Rattle.session.specs.Promise.{BeginPromise, StepPromise, FinishPromise}
use Rattle.session.specs.Cut.{Call, Run, Offered, taken, wrote, InParts}
use Rattle.session.proofs.Outcome.{taken_some, taken_all, written_over, state_after}
use Rattle.session.proofs.Over.{said_over_is, reads_over}
use Rattle.session.proofs.States.{state_reader}
use Rattle.session.proofs.Whole.{output_of, said_begun, check_is, send_is}

-- the calls from a state that stands for a reader, in a program of a kind
pub record Ran (kind : ℕ) (r : Reader Session) (calls : List Call) (t : State) : Type 0 where
  pub same : t.kind ≡ kind
  pub reader : reader_of t ≡ reads turn_of r (taken calls)
  pub text : wrote calls ≡ said turn_of (tell_of kind) r (taken calls)

-- one call more before them
ran_call : (s : State) (r : Reader Session) (c : Call) (cs : List Call) (t : State) → reader_of s ≡ r
    → StepPromise s c.part c.space c.answer c.after
    → Ran s.kind (reads turn_of r (take c.answer.taken c.part)) cs t → Ran s.kind r (c ∷ cs) t
unfolding taken wrote
ran_call s r c cs t e p v =
    let q = take c.answer.taken c.part in
    let tell = tell_of s.kind in
    let over : take c.answer.written c.after ≡ said turn_of tell r q =
    written_over s c.part c.space p ∙ ap (λ (x : Reader Session). said turn_of tell x q) e in
    record {
      same = v.same;
      reader = v.reader ∙ sym (reads_append turn_of r q (taken cs));
      text = ap₂ (λ (x y : List ℕ). x ++ y) over v.text ∙ sym (said_append turn_of tell r q (taken cs));
    }

-- the kind stays what it is
kind_after : (s : State) (part space : List ℕ) {r : Stepped} {after : List ℕ} → StepPromise s part space r after
    → r.state.kind ≡ s.kind
unfolding state_of
kind_after s part space p = ap (λ (x : State). x.kind) (state_after s part space p)

run_reader : (s : State) (r : Reader Session) (calls : List Call) (t : State) → reader_of s ≡ r → length r.line ≤ kept_chars
    → Run s calls t → Ran s.kind r calls t
unfolding taken wrote reads said
run_reader s r [] t e k run = record {
  same = ap (λ (x : State). x.kind) (sym run);
  reader = ap reader_of (sym run) ∙ e;
  text = refl;
}
run_reader s r (c ∷ cs) t e k run =
    let q = take c.answer.taken c.part in
    let kept = reads_kept turn_of r q k in
    let next : reader_of c.answer.state ≡ reads turn_of r q =
    ap reader_of (state_after s c.part c.space run.0 ∙ ap (λ (x : Reader Session). state_of s.kind (reads turn_of x q)) e)
    ∙ state_reader s.kind (reads turn_of r q) kept in
    let rest = run_reader c.answer.state (reads turn_of r q) cs t next kept run.1 in
    ran_call s r c cs t e run.0 (rw (kind_after s c.part c.space run.0) at rest)

-- what closes a line is at most a line feed
closing_most : (r : Reader Session) → length (closing r) ≤ 1
unfolding closing
closing_most r = by (eqb (length r.line) 0)
  where
    by : (b : Bool) → length (pick b [] (line_feed ∷ [])) ≤ 1
    by true = omega arith
    by false = omega arith

-- so finish takes all of it, and writes what is said at it
finish_over : (t : State) (space : List ℕ) {r : Stepped} {after : List ℕ} → width t.kind ≤ length space → FinishPromise t space r after
    → take r.written after ≡ said turn_of (tell_of t.kind) (reader_of t) (closing (reader_of t))
finish_over t space {r} room p =
    let end = closing (reader_of t) in
    let most = at_most_once (width t.kind) (length end) (closing_most (reader_of t)) in
    let n : r.taken ≡ length end = taken_all t end space p (omega (arith, most)) in
    written_over t end space p
    ∙ ap (said turn_of (tell_of t.kind) (reader_of t)) (ap (λ (k : ℕ). take k end) n ∙ take_all (length end) end (omega arith))
  where
    at_most_once : (w n : ℕ) → n ≤ 1 → w * n ≤ w
    at_most_once w zero h = omega arith
    at_most_once w (suc zero) h = omega arith
    at_most_once w (suc (suc n)) h = absurd (omega arith)

-- in a program of a kind
module _ (kind : ℕ) where
  -- parts that are offered with room for their texts are taken whole
  offered_taken : (s t : State) (parts : List (List ℕ)) (calls : List Call) → s.kind ≡ kind → Run s calls t → Offered kind parts calls
      → taken calls ≡ joined parts
  unfolding taken joined
  offered_taken s t [] [] e run o = refl
  offered_taken s t [] (c ∷ cs) e run o = absurd o
  offered_taken s t (p ∷ ps) [] e run o = absurd o
  offered_taken s t (p ∷ ps) (c ∷ cs) e run o =
      let room : width s.kind * length c.part ≤ length c.space = rw (o.0, e) o.1 in
      let all = taken_all s c.part c.space run.0 room in
      let front : take c.answer.taken c.part ≡ p =
      ap (λ (n : ℕ). take n c.part) all ∙ take_all (length c.part) c.part (omega arith) ∙ o.0 in
      let next = kind_after s c.part c.space run.0 ∙ e in
      ap₂ (λ (x y : List ℕ). x ++ y) front (offered_taken c.answer.state t ps cs next run.1 o.2)

  -- from the start
  abbrev start : Reader Session
  start = record { session = begun; line = [] }

  begun_kind : (s : State) → BeginPromise kind s → s.kind ≡ kind
  unfolding state_of
  begun_kind s b = ap (λ (x : State). x.kind) b

  run_begun : (s t : State) (calls : List Call) → BeginPromise kind s → Run s calls t → Ran kind start calls t
  run_begun s t calls b run =
      let v = run_reader s start calls t (ap reader_of b ∙ state_reader kind start (omega arith)) (omega arith) run in
      rw (begun_kind s b) at v

  ends : (s t : State) (calls : List Call) (space : List ℕ) {r : Stepped} {after : List ℕ} → BeginPromise kind s → Run s calls t
      → width kind ≤ length space → FinishPromise t space r after → wrote calls ++ take r.written after ≡ output_of kind (taken calls)
  ends s t calls space {r} {after} b run room p =
      let v = run_begun s t calls b run in
      let last = reads turn_of start (taken calls) in
      let room' : width t.kind ≤ length space = rw v.same room in
      let end : take r.written after ≡ said turn_of (tell_of kind) last (closing last) =
      finish_over t space room' p ∙ ap (λ (k : ℕ). said turn_of (tell_of k) (reader_of t) (closing (reader_of t))) v.same
      ∙ ap (λ (x : Reader Session). said turn_of (tell_of kind) x (closing x)) v.reader in
      ap₂ (λ (x y : List ℕ). x ++ y) v.text end ∙ said_begun kind (taken calls) start refl

  -- over before the end
  early : (s t : State) (calls : List Call) (rest : List ℕ) → BeginPromise kind s → Run s calls t → over t ≡ true
      → wrote calls ≡ output_of kind (taken calls ++ rest)
  unfolding over reader_of
  early s t calls rest b run e =
      let v = run_begun s t calls b run in
      let q = taken calls in
      let tell = tell_of kind in
      let last = reads turn_of start q in
      let h : 2 ≤ last.session.stage =
      omega (arith, leb-true 2 t.stage e, ap (λ (x : Reader Session). x.session.stage) v.reader) in
      let whole = reads turn_of start (q ++ rest) in
      let more : whole ≡ reads turn_of last rest = reads_append turn_of start q rest in
      let none : said turn_of tell whole (closing whole) ≡ [] =
      said_over_is kind whole (closing whole) (rw more (reads_over last rest h)) in
      let text : said turn_of tell start (q ++ rest) ≡ said turn_of tell start q =
      said_append turn_of tell start q rest ∙ ap (λ (x : List ℕ). said turn_of tell start q ++ x) (said_over_is kind last rest h)
      ∙ append-nil (said turn_of tell start q) in
      v.text ∙ sym text ∙ sym (append-nil (said turn_of tell start (q ++ rest)))
      ∙ ap (λ (x : List ℕ). said turn_of tell start (q ++ rest) ++ x) (sym none)
      ∙ said_begun kind (q ++ rest) start refl

  -- the program's demand holds, of an output that is that of its kind
  in_parts : (out : List ℕ → List ℕ) → ((input : List ℕ) → output_of kind input ≡ out input) → InParts kind out
  in_parts out is = record {
    joined_is = λ s t calls space after r b run room p. ends s t calls space b run room p ∙ is (taken calls);
    every_cut =
        λ parts s t calls space after r b run o room p.
        ends s t calls space b run room p ∙ is (taken calls) ∙ ap out (offered_taken s t parts calls (begun_kind s b) run o);
    over_early = λ s t calls rest b run e. early s t calls rest b run (sym e) ∙ is (taken calls ++ rest);
    takes_all = λ s part space after r e p h. taken_all s part space p (rw e h);
    takes_some = λ s part space after r e p h k. taken_some s part space p (rw e h) k;
  }

-- of check, which every kind but send's is, and of send
pub check_in_parts : (kind : ℕ) → (kind ≡ send_kind → ⊥) → InParts kind check_output
check_in_parts kind h = in_parts kind check_output (check_is kind h)

pub send_in_parts : InParts send_kind send_output
send_in_parts = in_parts send_kind send_output send_is
