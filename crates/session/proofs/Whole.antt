-- Line by line, and what was said from the start, is the program's output for the whole input.
-- Assumes nothing.
use Rattle.std.specs.Prelude.{Err, ◌≡◌, refl, Bool, true, false, List, [], ◌∷◌, ◌++◌, ℕ, ◌<◌, eqb, length}
use Rattle.std.proofs.Common.{ap, sym, ◌∙◌, ⊎_elim, append-nil, arith, take_all, length-take-le, ne_eqb}
use Rattle.laws.specs.Pick.{pick}
use Rattle.laws.proofs.Cases.{below_or_not}
use Rattle.keys.specs.declared.KeySet.{KeySet}
use Rattle.numbers.specs.declared.Refusal.TheVariants.{BadLength}
use Rattle.numbers.specs.Told.{number_of}
use Rattle.keys.specs.Told.{told_keys}
use Rattle.keys.specs.declared.KeyAnswer.{KeyAnswer}
use Rattle.keyline.specs.KeyLine.{key_line_answer}
use Rattle.keyline.proofs.Answered.{number_length as key-length, read_refused}
use Rattle.hex_line.proofs.Outcome.{number_length as line_length}
use Rattle.frame.specs.Frame.{refused_frame}
use Rattle.lines.specs.Lines.{line_feed, lines}
use Rattle.lines.specs.Reader.{kept_chars, kept_line, Reader, reads, said, closing}
use Rattle.lines.proofs.Reader.{answers, said_all}
use Rattle.answer.specs.Line.{line_answer}
use Rattle.answer.proofs.Answered.{answer_refused}
use Rattle.outgoing.specs.Text.{sent_text}
use Rattle.outgoing.proofs.Sent.{unread_line}
use Rattle.session.specs.Output.{told_at, under_keys, lines_told, output, verdict_text, refusal_text, check_output, no_text, send_output}
use Rattle.session.specs.Session.{Session, session_of, key_turn, key_tell, line_tell, refusal_tell, begun, turn_of, tell_of}

-- a line that is too long is answered alike, whatever it holds, and so what is kept of a line is answered as the line is
alike : {A : Type 0} (f : List ℕ → A) (z : A) → ((l : List ℕ) → 510 < length l → f l ≡ z) → (l : List ℕ) → f (kept_line l) ≡ f l
alike f z h l =
    ⊎_elim (λ b. ap f (take_all kept_chars l (omega arith)))
    (λ b. let n : length (kept_line l) ≡ 511 = length-take-le kept_chars l b in h (kept_line l) (omega arith) ∙ sym (h l (omega arith)))
    (below_or_not (length l) kept_chars)

key_kept : (l : List ℕ) → key_line_answer (kept_line l) ≡ key_line_answer l
unfolding number_of
key_kept = alike key_line_answer (told_keys (Err BadLength)) (λ l b. sym (read_refused l BadLength (key-length l (λ z. omega arith))))

line_kept : (k : KeySet) (l : List ℕ) → line_answer k (kept_line l) ≡ line_answer k l
line_kept k =
    alike (line_answer k) (refused_frame 8)
    (λ l b. sym (answer_refused k l (line_length 255 l (omega arith) b) (λ z. omega arith)))

sent_kept : (k : KeySet) (l : List ℕ) → sent_text k (kept_line l) ≡ sent_text k l
unfolding sent_text
sent_kept k =
    alike (sent_text k) (line_feed ∷ [])
    (λ l b.
    let e = line_length 255 l (omega arith) b in
    ap (λ (x : List ℕ). x ++ (line_feed ∷ [])) (unread_line k l (λ z. omega (arith, e))))

pub turn_kept : (a : Session) (l : List ℕ) → turn_of a (kept_line l) ≡ turn_of a l
unfolding turn_of
turn_kept a l = rw (key_kept l)

pub tell_kept : (kind : ℕ) (a : Session) (l : List ℕ) → tell_of kind a (kept_line l) ≡ tell_of kind a l
unfolding tell_of line_tell verdict_text
tell_kept kind a l = rw (key_kept l, line_kept a.keys l, sent_kept a.keys l)

-- of a program of a kind
module _ (kind : ℕ) where
  -- its output
  unfoldable pub output_of : List ℕ → List ℕ
  output_of input = output (refusal_tell kind) (line_tell kind) input

  -- lines under a key set
  answers_lines : (k : KeySet) (ls : List (List ℕ)) → answers turn_of (tell_of kind) (session_of 1 k) ls ≡ told_at (line_tell kind) k ls
  unfolding answers told_at turn_of tell_of
  answers_lines k [] = refl
  answers_lines k (l ∷ ls) = ap (λ (x : List ℕ). line_tell kind k l ++ x) (answers_lines k ls)

  -- lines after it is over
  answers_over : (k : KeySet) (ls : List (List ℕ)) → answers turn_of (tell_of kind) (session_of 2 k) ls ≡ []
  unfolding answers turn_of tell_of
  answers_over k [] = refl
  answers_over k (l ∷ ls) = answers_over k ls

  -- the key line and those behind it, by its number
  keys_by : (made : KeyAnswer) (ls : List (List ℕ)) (b : Bool) → eqb made.number 0 ≡ b
      → key_tell kind made ++ answers turn_of (tell_of kind) (key_turn made) ls ≡ under_keys (refusal_tell kind) (line_tell kind) made ls
  unfolding key_tell key_turn under_keys
  keys_by made ls true e = rw e (answers_lines made.keys ls)
  keys_by made ls false e =
      rw e
      (ap (λ (x : List ℕ). refusal_tell kind made.number ++ x) (answers_over made.keys ls)
      ∙ append-nil (refusal_tell kind made.number))

  -- from the start it is the program's output
  answers_begun : (ls : List (List ℕ)) → answers turn_of (tell_of kind) begun ls ≡ lines_told (refusal_tell kind) (line_tell kind) ls
  unfolding answers lines_told begun turn_of tell_of
  answers_begun [] = refl
  answers_begun (l ∷ ls) = let made = key_line_answer l in keys_by made ls (eqb made.number 0) refl

  pub said_begun : (input : List ℕ) (r : Reader Session) → r ≡ record { session = begun; line = [] }
      → said turn_of (tell_of kind) r input ++ said turn_of (tell_of kind) (reads turn_of r input) (closing (reads turn_of r input))
      ≡ output_of input
  unfolding output_of output
  said_begun input r e =
      said_all turn_of (tell_of kind) turn_kept (tell_kept kind) r input (ap (λ (x : Reader Session). x.line) e)
      ∙ ap (λ (x : Reader Session). answers turn_of (tell_of kind) x.session (lines input)) e
      ∙ answers_begun (lines input)

-- which is check's, of every kind but send's
pub check_is : (kind : ℕ) → (kind ≡ 1 → ⊥) → (input : List ℕ) → output_of kind input ≡ check_output input
unfolding output_of check_output refusal_tell line_tell
check_is kind h input =
    ap
    (λ (b : Bool).
    output (λ (n : ℕ). pick b (no_text n) (refusal_text n)) (λ (k : KeySet) (l : List ℕ). pick b (sent_text k l) (verdict_text k l)) input)
    (ne_eqb kind 1 h)

-- and send's
pub send_is : (input : List ℕ) → output_of 1 input ≡ send_output input
unfolding output_of send_output refusal_tell line_tell
send_is input = refl
