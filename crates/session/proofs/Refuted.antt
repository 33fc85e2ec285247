-- Wrong outcomes that the promises do not permit.
-- Assumes nothing.
use Rattle.std.specs.Prelude.{◌≡◌, true, false, List, [], ◌∷◌, ℕ, ◌≤◌, ◌<◌, eqb, length, take}
use Rattle.std.proofs.Common.{ap, sym, ◌∙◌, append-nil, arith, leb-true, leb-false, eq-eqb, ne_eqb}
use Rattle.keyline.specs.KeyLine.{key_line_answer}
use Rattle.lines.specs.Lines.{line_feed, plain}
use Rattle.lines.specs.Reader.{kept_chars, next, reads, said, closing}
use Rattle.lines.proofs.Plain.{plain_more}
use Rattle.lines.proofs.Reader.{said_plain, said_feed}
use Rattle.session.specs.declared.State.{State}
use Rattle.session.specs.declared.Stepped.{Stepped}
use Rattle.outgoing.specs.Text.{sent_text}
use Rattle.session.specs.Output.{verdict_text, no_text}
use Rattle.session.specs.Session.{width, line_tell, key_tell, refusal_tell, begun, turn_of, tell_of, reader_of, state_of, over}
use Rattle.session.specs.Promise.{WidthPromise, BeginPromise, IsOverPromise, StepPromise, FinishPromise}
use Rattle.session.proofs.Outcome.{taken_some, taken_all, written_is, written_over, state_after, last_told}
use Rattle.session.proofs.Over.{said_over_is}
use Rattle.session.proofs.States.{closing_feed}
use Rattle.session.proofs.Telling.{line_some}

-- a start at which the key line is not awaited: the first line is taken for another, or nothing is ever answered
pub keys_not_awaited : (kind : ℕ) (r : State) → BeginPromise kind r → 1 ≤ r.stage → ⊥
unfolding state_of begun
keys_not_awaited kind r e h = let n : r.stage ≡ 0 = ap (λ (s : State). s.stage) e in omega arith

-- or at which a line is begun
pub line_begun : (kind : ℕ) (r : State) → BeginPromise kind r → 1 ≤ r.count → ⊥
unfolding state_of begun
line_begun kind r e h = let n : r.count ≡ 0 = ap (λ (s : State). s.count) e in omega arith

-- a refused key line that does not end the program
pub never_over : (s : State) → 2 ≤ s.stage → IsOverPromise s false → ⊥
unfolding over
never_over s h e = omega (arith, leb-false 2 s.stage (sym e))

-- one that was not refused and ends it
pub over_once_keys_came : (s : State) → s.stage ≤ 1 → IsOverPromise s true → ⊥
unfolding over
over_once_keys_came s h e = omega (arith, leb-true 2 s.stage (sym e))

-- a part of which nothing is taken though there is room for a text, and for just one
pub last_room_unused : (s : State) (part space : List ℕ) (r : Stepped) (after : List ℕ) → width s.kind ≤ length space → 1 ≤ length part
    → StepPromise s part space r after → r.taken ≡ 0 → ⊥
last_room_unused s part space r after h k e z = omega (arith, taken_some s part space e h k)

-- an answer at a character that is no line feed, as where the 512th of a line is taken for its end
pub long_line_cut : (s : State) (c : ℕ) (space : List ℕ) (r : Stepped) (after : List ℕ) → eqb c line_feed ≡ false
    → width s.kind ≤ length space → StepPromise s (c ∷ []) space r after → 1 ≤ r.written → ⊥
unfolding plain
long_line_cut s c space r after h room p k =
    let n : r.taken ≡ 1 = taken_all s (c ∷ []) space p (omega arith) in
    let none = said_plain turn_of (tell_of s.kind) (reader_of s) (c ∷ []) (plain_more c [] h) in
    let z : r.written ≡ 0 =
    written_is s (c ∷ []) space p ∙ ap (λ (m : ℕ). length (said turn_of (tell_of s.kind) (reader_of s) (take m (c ∷ [])))) n
    ∙ ap length none in
    omega arith

-- a line feed alone is taken, and the text at the line that it ends is written
module _ (s : State) (space : List ℕ) {r : Stepped} {after : List ℕ} (room : width s.kind ≤ length space)
    (p : StepPromise s (line_feed ∷ []) space r after)
  where
    abbrev text : List ℕ
    text = tell_of s.kind (reader_of s).session (reader_of s).line

    over_feed : said turn_of (tell_of s.kind) (reader_of s) (take r.taken (line_feed ∷ [])) ≡ text
    unfolding said
    over_feed =
        let n : r.taken ≡ 1 = taken_all s (line_feed ∷ []) space p (omega (arith, room)) in
        ap (λ (m : ℕ). said turn_of (tell_of s.kind) (reader_of s) (take m (line_feed ∷ []))) n
        ∙ said_feed turn_of (tell_of s.kind) (reader_of s) [] ∙ append-nil text

    feed_written : r.written ≡ length text
    feed_written = written_is s (line_feed ∷ []) space p ∙ ap length over_feed

    feed_text : take r.written after ≡ text
    feed_text = written_over s (line_feed ∷ []) space p ∙ over_feed

-- a line that is answered twice: at its line feed more is written than its text
pub line_answered_twice : (s : State) (space : List ℕ) (r : Stepped) (after : List ℕ) → width s.kind ≤ length space
    → StepPromise s (line_feed ∷ []) space r after
    → length (tell_of s.kind (reader_of s).session (reader_of s).line) < r.written → ⊥
line_answered_twice s space r after room p h = omega (arith, feed_written s space room p)

-- send that tells another text at a body line than the frame line of its body, as a verdict
pub verdict_sent : (s : State) (space : List ℕ) (r : Stepped) (after : List ℕ) → s.kind ≡ 1 → s.stage ≡ 1
    → width s.kind ≤ length space → StepPromise s (line_feed ∷ []) space r after
    → (take r.written after ≡ sent_text s.keys (take s.count s.line) → ⊥) → ⊥
unfolding tell_of line_tell reader_of
verdict_sent s space r after sends stage room p w = w (feed_text s space room p ∙ rw (stage, eq-eqb s.kind 1 sends))

-- and check that tells another than the verdict, as a frame line
pub frame_line_checked : (s : State) (space : List ℕ) (r : Stepped) (after : List ℕ) → (s.kind ≡ 1 → ⊥) → s.stage ≡ 1
    → width s.kind ≤ length space → StepPromise s (line_feed ∷ []) space r after
    → (take r.written after ≡ verdict_text s.keys (take s.count s.line) → ⊥) → ⊥
unfolding tell_of line_tell reader_of
frame_line_checked s space r after checks stage room p w = w (feed_text s space room p ∙ rw (stage, ne_eqb s.kind 1 checks))

-- lines that are answered after a refused key line
pub answered_when_over : (s : State) (part space : List ℕ) (r : Stepped) (after : List ℕ) → 2 ≤ s.stage
    → StepPromise s part space r after → 1 ≤ r.written → ⊥
unfolding reader_of
answered_when_over s part space r after h p k =
    omega (arith, written_is s part space p, ap length (said_over_is s.kind (reader_of s) (take r.taken part) h))

-- a last line without its line feed that gets no answer
pub last_line_unanswered : (s : State) (space : List ℕ) (r : Stepped) (after : List ℕ) → length s.line ≡ kept_chars → s.stage ≡ 1
    → (s.count ≡ 0 → ⊥) → width s.kind ≤ length space → FinishPromise s space r after → r.written ≡ 0 → ⊥
last_line_unanswered s space r after size stage h room p z =
    let told = last_told s space size stage h room p in
    let some = line_some s.kind s.keys (take s.count s.line) in
    omega (arith, ap length (sym (ap (λ (n : ℕ). take n after) z) ∙ told), some)

-- a last line that is left begun at the end, as where another character than a line feed closes it
pub last_line_left : (s : State) (space : List ℕ) (r : Stepped) (after : List ℕ) → length s.line ≡ kept_chars → (s.count ≡ 0 → ⊥)
    → width s.kind ≤ length space → FinishPromise s space r after → 1 ≤ r.state.count → ⊥
unfolding reads next state_of
last_line_left s space r after size h room e k =
    let end : closing (reader_of s) ≡ line_feed ∷ [] = closing_feed s size h in
    let n : r.taken ≡ 1 = taken_all s (closing (reader_of s)) space e (rw end (omega arith)) ∙ ap length end in
    let is : r.state.count ≡ 0 =
    ap (λ (t : State). t.count) (state_after s (closing (reader_of s)) space e) ∙ rw (n, end) in
    omega arith

-- a state at the start that is of another kind
pub begun_of_another_kind : (kind : ℕ) (r : State) → BeginPromise kind r → (r.kind ≡ kind → ⊥) → ⊥
unfolding state_of
begun_of_another_kind kind r e w = w (ap (λ (s : State). s.kind) e)

-- a step that makes another program of it
pub kind_changed : (s : State) (part space : List ℕ) (r : Stepped) (after : List ℕ) → StepPromise s part space r after
    → (r.state.kind ≡ s.kind → ⊥) → ⊥
unfolding state_of
kind_changed s part space r after p w = w (ap (λ (t : State). t.kind) (state_after s part space p))

-- room for a verdict taken for room for a frame line, and the other way round
pub sent_in_the_room_of_a_verdict : (r : ℕ) → WidthPromise 1 r → r < 511 → ⊥
unfolding width
sent_in_the_room_of_a_verdict r e h = omega (arith, e)

pub more_room_than_a_verdict : (r : ℕ) → WidthPromise 0 r → 21 < r → ⊥
unfolding width
more_room_than_a_verdict r e h = omega (arith, e)

-- a refused key line that send answers
pub refusal_sent : (s : State) (space : List ℕ) (r : Stepped) (after : List ℕ) → s.kind ≡ 1 → s.stage ≡ 0
    → ((key_line_answer (take s.count s.line)).number ≡ 0 → ⊥) → width s.kind ≤ length space
    → StepPromise s (line_feed ∷ []) space r after → 1 ≤ r.written → ⊥
unfolding reader_of tell_of key_tell refusal_tell no_text
refusal_sent s space r after sends awaits refused room p h =
    let made = key_line_answer (take s.count s.line) in
    let none : tell_of s.kind (reader_of s).session (reader_of s).line ≡ [] =
    rw (awaits, ne_eqb made.number 0 refused, eq-eqb s.kind 1 sends) in
    omega (arith, feed_written s space room p, ap length none)
