-- What a line makes of a session and what is told at it, case by case; and that it is no longer than a text may be.
-- Assumes nothing.
use Rattle.std.specs.Prelude.{◌≡◌, refl, Result, Ok, Err, Bool, true, false, List, [], ◌++◌, ℕ, ◌+◌, ◌-◌, ◌≤◌, eqb, length, take, drop}
use Rattle.std.proofs.Common.{length-take, length-drop, ap, sym, ◌∙◌, arith, eq-eqb, ne_eqb}
use Rattle.laws.specs.Pick.{pick}
use Rattle.keys.specs.declared.KeySet.{KeySet}
use Rattle.numbers.specs.declared.Refusal.{Refusal}
use Rattle.numbers.specs.Told.{number_of}
use Rattle.numbers.proofs.Number.{not_done}
use Rattle.keys.specs.declared.Made.{Made}
use Rattle.keys.specs.Told.{no_set, told_keys}
use Rattle.keys.specs.declared.KeyAnswer.{KeyAnswer}
use Rattle.keyline.specs.KeyLine.{key_line_answer}
use Rattle.frame.specs.declared.FrameAnswer.{FrameAnswer}
use Rattle.frame.specs.Frame.{refused_frame}
use Rattle.lines.specs.Moves.{Wrote}
use Rattle.lines.specs.Tell.{TellsIn}
use Rattle.lines.proofs.Telling.{wrote_none, wrote_front, front_wrote, tells_text, text_tells, wrote_text}
use Rattle.answer.specs.Line.{line_answer}
use Rattle.answer.specs.Text.{text_of}
use Rattle.answer.specs.Promise.{TellPromise}
use Rattle.answer.proofs.Spelt.{text_length_is}
use Rattle.outgoing.specs.Text.{sent_text}
use Rattle.outgoing.specs.Promise as outgoing
use Rattle.outgoing.proofs.Sent.{sent_most, text_length_is as sent-length}
use Rattle.session.specs.Output.{verdict_text, refusal_text, no_text}
use Rattle.session.specs.Inner.{Tells}
use Rattle.session.specs.Session.{Session, width, key_turn, key_tell, line_tell, refusal_tell, tell_of}

-- how long a text may be: of the two kinds
pub width_sends : (kind : ℕ) → kind ≡ 1 → 511 ≡ width kind
unfolding width
width_sends kind z = rw (eq-eqb kind 1 z)

pub width_checks : (kind : ℕ) → (kind ≡ 1 → ⊥) → 21 ≡ width kind
unfolding width
width_checks kind h = rw (ne_eqb kind 1 h)

-- of every kind
pub width_some : (kind : ℕ) → 1 ≤ width kind
unfolding width
width_some kind = by (eqb kind 1)
  where
    by : (b : Bool) → 1 ≤ pick b 511 21
    by true = omega arith
    by false = omega arith

pub width_most : (kind : ℕ) → width kind ≤ 511
unfolding width
width_most kind = by (eqb kind 1)
  where
    by : (b : Bool) → pick b 511 21 ≤ 511
    by true = omega arith
    by false = omega arith

-- a choice of lists that are short
pick_most : (b : Bool) (x y : List ℕ) (n : ℕ) → length x ≤ n → length y ≤ n → length (pick b x y) ≤ n
pick_most true x y n h k = h
pick_most false x y n h k = k

-- by the same choice of bounds
picks_most : (b : Bool) (x y : List ℕ) (m n : ℕ) → length x ≤ m → length y ≤ n → length (pick b x y) ≤ pick b m n
picks_most true x y m n h k = h
picks_most false x y m n h k = k

-- what is told at a line is no longer, whichever line it is
refusal_most : (kind number : ℕ) → length (refusal_tell kind number) ≤ width kind
unfolding refusal_tell width refusal_text no_text
refusal_most kind number =
    picks_most (eqb kind 1) [] (text_of (refused_frame number)) 511 21 (omega arith) (omega (arith, text_length_is (refused_frame number)))

key_most : (kind : ℕ) (made : KeyAnswer) → length (key_tell kind made) ≤ width kind
unfolding key_tell
key_most kind made =
    pick_most (eqb made.number 0) [] (refusal_tell kind made.number) (width kind) (omega arith) (refusal_most kind made.number)

pub line_most : (kind : ℕ) (keys : KeySet) (line : List ℕ) → length (line_tell kind keys line) ≤ width kind
unfolding line_tell width verdict_text
line_most kind keys line =
    picks_most (eqb kind 1) (sent_text keys line) (text_of (line_answer keys line)) 511 21
    (omega (arith, sent-length keys line, sent_most keys line)) (omega (arith, text_length_is (line_answer keys line)))

-- and at a line behind the key line there is some
pub line_some : (kind : ℕ) (keys : KeySet) (line : List ℕ) → 1 ≤ length (line_tell kind keys line)
unfolding line_tell verdict_text
line_some kind keys line = by (eqb kind 1)
  where
    by : (b : Bool) → 1 ≤ length (pick b (sent_text keys line) (text_of (line_answer keys line)))
    by true = omega (arith, sent-length keys line)
    by false = omega (arith, text_length_is (line_answer keys line))

pub tell_most : (kind : ℕ) (a : Session) (line : List ℕ) → length (tell_of kind a line) ≤ width kind
unfolding tell_of
tell_most kind a line =
    pick_most (eqb a.stage 0) (key_tell kind (key_line_answer line)) (pick (eqb a.stage 1) (line_tell kind a.keys line) [])
    (width kind) (key_most kind (key_line_answer line))
    (pick_most (eqb a.stage 1) (line_tell kind a.keys line) [] (width kind) (line_most kind a.keys line) (omega arith))

-- a text told in a space that has room for it stands at the front
told_front : (most : ℕ) (text space : List ℕ) {n : ℕ} {after : List ℕ} → most ≤ length space → TellsIn most text space n after
    → Wrote text space 0 n after
told_front most text space room p =
    let t = tells_text most text space room p in
    wrote_front t.0 (t.1 ∙ ap (λ (k : ℕ). text ++ drop k space) (sym t.0))

-- one at the front of what is left of a space from a place on, which is lent for it, stands at that place
pub wrote_behind : (text space : List ℕ) (out : ℕ) {n : ℕ} {x : List ℕ} → out + length text ≤ length space
    → Wrote text (take (length space - out) (drop out space)) 0 n x
    → Wrote text space out n (take out space ++ (x ++ drop (length space - out) (drop out space)))
wrote_behind text space out room w =
    let lent = take (length space - out) (drop out space) in
    let most : length text ≤ length lent = omega (arith, length-take (length space - out) (drop out space), length-drop out space) in
    wrote_text (length text) text space out room (text_tells (length text) text lent most w.size (front_wrote w))

module _ (kind : ℕ) (space : List ℕ) (room : width kind ≤ length space) where
  -- the frame line of a body
  pub wrote_sent : (keys : KeySet) (line : List ℕ) {n : ℕ} {after : List ℕ} → kind ≡ 1 → outgoing.TellPromise keys line space n after
      → Wrote (line_tell kind keys line) space 0 n after
  unfolding line_tell
  wrote_sent keys line z p = rw (eq-eqb kind 1 z) (told_front 511 (sent_text keys line) space (omega (arith, width_sends kind z)) p)

  -- the verdict on a frame
  pub wrote_verdict : (keys : KeySet) (line : List ℕ) {v : FrameAnswer} {n : ℕ} {after : List ℕ} → (kind ≡ 1 → ⊥)
      → v ≡ line_answer keys line → TellPromise v space n after → Wrote (line_tell kind keys line) space 0 n after
  unfolding line_tell verdict_text
  wrote_verdict keys line {v} h e p =
      rw (ne_eqb kind 1 h) (rw e at (told_front 21 (text_of v) space (omega (arith, width_checks kind h)) p))

  -- a refusal
  pub wrote_refusal : (number : ℕ) {v : FrameAnswer} {n : ℕ} {after : List ℕ} → (kind ≡ 1 → ⊥) → v ≡ refused_frame number
      → TellPromise v space n after → Wrote (refusal_tell kind number) space 0 n after
  unfolding refusal_tell refusal_text
  wrote_refusal number {v} h e p =
      rw (ne_eqb kind 1 h) (rw e at (told_front 21 (text_of v) space (omega (arith, width_checks kind h)) p))

-- or nothing of it
pub wrote_silent : (kind number : ℕ) (space : List ℕ) → kind ≡ 1 → Wrote (refusal_tell kind number) space 0 0 space
unfolding refusal_tell no_text
wrote_silent kind number space z = rw (eq-eqb kind 1 z) (wrote_none space 0)

-- the key line: accepted, and refused
module _ (kind : ℕ) (space : List ℕ) {made : Result Made Refusal} where
  pub keys_accepted : {m : Made} → made ≡ Ok m
      → Tells (key_turn (told_keys made)) (key_tell kind (told_keys made)) space (record { stage = 1; keys = m.keys; written = 0 }) space
  unfolding told_keys key_turn key_tell
  keys_accepted e = rw e (record { session = refl; text = wrote_none space 0 })

  pub keys_refused : {why : Refusal} {k : KeySet} {n : ℕ} {after : List ℕ} → made ≡ Err why → k ≡ no_set
      → Wrote (refusal_tell kind (number_of why)) space 0 n after
      → Tells (key_turn (told_keys made)) (key_tell kind (told_keys made)) space (record { stage = 2; keys = k; written = n }) after
  unfolding told_keys key_turn key_tell
  keys_refused {why} e none w =
      let some = ne_eqb (number_of why) 0 (not_done why) in
      rw (e, none) (record { session = rw some; text = rw some w })
