-- What the writer writes check accepts, and the other way round; and so for the two programs.
-- Assumes nothing.
use Rattle.std.specs.Prelude.{◌≡◌, refl, Bool, true, false, ◌↔◌, List, [], ◌∷◌, ◌++◌, ℕ, ◌%◌, ◌≤◌, eqb, length, take}
use Rattle.std.proofs.Common.{ap, ap₂, sym, ◌∙◌, ⊎_elim, append_assoc, arith, eq-eqb, ne_eqb, eqb-true, Bor}
use Rattle.laws.specs.Fault.{unless}
use Rattle.laws.specs.Pick.{pick}
use Rattle.laws.proofs.Both.{both_holds}
use Rattle.laws.proofs.Bytes.{Bytes, bytes_take}
use Rattle.laws.proofs.Cases.{none_or_some}
use Rattle.laws.proofs.Fault.{unless_holds, unless_none, none_of_two}
use Rattle.keys.specs.declared.KeySet.{KeySet}
use Rattle.keys.specs.declared.KeyAnswer.{KeyAnswer}
use Rattle.keys.proofs.SetNumber.{Taken, taken_set}
use Rattle.message.specs.Answer.{tagged}
use Rattle.hex_line.specs.Answer.{decode_number}
use Rattle.hex_line.specs.Digit.{digit_of, read_number, is_digit}
use Rattle.hex_line.specs.Line.{all_digits, is_hex, decoded}
use Rattle.hex_line.proofs.BothWays.{decoded_bytes}
use Rattle.hex_line.proofs.Outcome.{number_rest}
use Rattle.hex_line.proofs.Told.{decodes}
use Rattle.keyline.specs.KeyLine.{key_line_number}
use Rattle.keyline.specs.Promise.{ReadPromise}
use Rattle.frame.specs.declared.FrameAnswer.{FrameAnswer}
use Rattle.frame.specs.Frame.{body_of, frame_number, refused_frame, frame_answer}
use Rattle.frame.specs.Open.{opened}
use Rattle.frame.specs.Promise.{JudgePromise, OpenPromise}
use Rattle.frame.proofs.Number.{frame_short}
use Rattle.frame.proofs.Made.{answer_refused, body_length_is}
use Rattle.frame.proofs.Opened.{opened_accepted, front_is, number_is as judged-number}
use Rattle.frame.proofs.Verdict.{is_accepted, checked}
use Rattle.lines.specs.Lines.{line_feed, plain, lines}
use Rattle.lines.proofs.Plain.{plain_more, lines_feed}
use Rattle.answer.specs.Line.{line_answer}
use Rattle.answer.specs.Text.{text_of}
use Rattle.answer.specs.Promise.{OfLinePromise}
use Rattle.writer.specs.declared.Written.{Written}
use Rattle.writer.specs.Line.{frame_of, line_of, done_write}
use Rattle.writer.specs.Promise.{WritePromise}
use Rattle.writer.proofs.Number.{Fits, writes_none}
use Rattle.writer.proofs.Framed.{frame_body, frame_verdict, line_some, line_decodes, line_frame, frame_again, body_fits, line_again}
use Rattle.writer.proofs.Told.{number_is, is_written}
use Rattle.outgoing.specs.Text.{is_sent, sent_line, sent_text}
use Rattle.outgoing.proofs.Sent.{sent_told}
use Rattle.session.specs.Output.{told_at, under_keys, lines_told, output, verdict_text, check_output, no_text, refusal_text, send_output}
use Rattle.session.specs.Session.{check_kind, send_kind}
use Rattle.session.specs.Cut.{InParts}
use Rattle.session.proofs.Cutting.{check_in_parts, send_in_parts}
use Rattle.demands.specs.Shore.{arrival, arrival_text, Ran, ShoreAndShip}
use Rattle.demands.specs.Terms.{Frame, body_end}
use Rattle.demands.proofs.KeySet.{made_taken}
use Rattle.demands.proofs.Lines.{faulty_number, read as read-keys, line_read, line_faulty}

-- a line of digits has no line feed in it
digit_plain : (c : ℕ) → is_digit c ≡ true → eqb c line_feed ≡ false
unfolding digit_of read_number
digit_plain c e = by (eqb c line_feed) refl
  where
    by : (b : Bool) → eqb c line_feed ≡ b → b ≡ false
    by true q =
        let wrong : is_digit 10 ≡ true = ap is_digit (sym (eqb-true c 10 q)) ∙ e in
        absurd (let z : ◌≡◌ {A = ℕ} 0 1 = cc wrong in omega arith)
    by false q = refl

digits_plain : (l : List ℕ) → all_digits l ≡ true → plain l ≡ l
unfolding plain all_digits
digits_plain [] e = refl
digits_plain (c ∷ l) e =
    let f = both_holds (is_digit c) (all_digits l) e in
    plain_more c l (digit_plain c f.0) ∙ ap (λ (x : List ℕ). c ∷ x) (digits_plain l f.1)

hex_plain : (l : List ℕ) → is_hex l ≡ true → plain l ≡ l
unfolding is_hex
hex_plain l e = digits_plain l (both_holds (eqb (length l % 2) 0) (all_digits l) e).1

-- the verdict on a body's tag, where it is accepted
abbrev accepts_body : KeySet → List ℕ → FrameAnswer
accepts_body k body = record { number = 0; whole = (tagged k body).whole; four = (tagged k body).four; body = length body }

-- the verdict on the line of a body that fits
module _ (k : KeySet) (body : List ℕ) (fits : Fits k (length body)) (h : Bytes body) where
  line_verdict : line_answer k (line_of k body) ≡ accepts_body k body
  line_verdict =
      line_read k (line_of k body) (line_answer k (line_of k body)) refl (line_decodes k body fits h)
      ∙ ap (frame_answer k) (line_frame k body fits h) ∙ frame_verdict k body fits

  line_plain : plain (line_of k body) ≡ line_of k body
  line_plain = hex_plain (line_of k body) (decodes 255 (line_of k body) (line_decodes k body fits h)).hex

-- ROUND TRIP
module _ (k : KeySet) (body space after : List ℕ) (w : Written) (h : Bytes body) (p : WritePromise k body space w after)
    (z : w.number ≡ 0)
  where
    written_accepted : (v : FrameAnswer) → OfLinePromise k (take w.written after) v
        → v ≡ record { number = 0; whole = w.whole; four = w.four; body = length body }
    unfolding done_write
    written_accepted v e =
        let t = is_written k body space p z in
        let whole = ap (λ (x : Written). x.whole) (sym t.answer) in
        let four = ap (λ (x : Written). x.four) (sym t.answer) in
        e ∙ ap (line_answer k) t.line ∙ line_verdict k body t.fits h
        ∙ (λ i. record { number = 0; whole = whole i; four = four i; body = length body })

    written_opened : (frame o : Bor (List ℕ)) → frame.now ≡ decoded (take w.written after) → OpenPromise k frame o → o.now ≡ body
    written_opened frame o e q =
        let t = is_written k body space p z in
        let f = frame_of k body in
        let is : frame.now ≡ f = e ∙ ap decoded t.line ∙ line_frame k body t.fits h in
        let zero = ap (λ (x : FrameAnswer). x.number) (frame_verdict k body t.fits) in
        q.0 ∙ ap (opened k) is ∙ opened_accepted k f zero ∙ frame_body k body t.fits

-- CONVERSE
module _ (k : KeySet) (line : List ℕ) (v : FrameAnswer) (e : OfLinePromise k line v) (z : v.number ≡ 0) where
  read : decode_number 255 line ≡ 0
  unfolding refused_frame
  read =
      ⊎_elim (λ n. n) (λ n. absurd (n (ap (λ (x : FrameAnswer). x.number) (sym (line_faulty k line v e n)) ∙ z)))
      (none_or_some (decode_number 255 line))

  judged : v ≡ frame_answer k (decoded line)
  judged = line_read k line v e read

  zero : (frame_answer k (decoded line)).number ≡ 0
  zero = sym (judged-number k (decoded line) judged) ∙ z

  -- it is the line of its body
  own_line : line ≡ line_of k (take v.body (decoded line))
  own_line = sym (ap (line_of k) (front_is k (decoded line) judged z) ∙ line_again k line read zero)

  accepted_written : (space after : List ℕ) (w : Written) → 510 ≤ length space
      → WritePromise k (take v.body (decoded line)) space w after
      → (w.number ≡ 0) × (take w.written after ≡ line) × (w.whole ≡ v.whole) × (w.four ≡ v.four)
  unfolding done_write
  accepted_written space after w room q =
      let body = body_of k (decoded line) in
      let p : WritePromise k body space w after = rw (front_is k (decoded line) judged z) at q in
      let none = number_is k body space p ∙ writes_none k (length space) (length body) room (body_fits k line read zero) in
      let t = is_written k body space p none in
      let c = checked k (decoded line) (is_accepted k (decoded line) zero).none in (
        none,
        t.line ∙ line_again k line read zero,
        ap (λ (x : Written). x.whole) t.answer ∙ sym c.whole ∙ ap (λ (x : FrameAnswer). x.whole) (sym judged),
        ap (λ (x : Written). x.four) t.answer ∙ sym c.four ∙ ap (λ (x : FrameAnswer). x.four) (sym judged),
      )

-- ONE SPELLING
one_line : (k : KeySet) (line line' : List ℕ) (v v' : FrameAnswer) → OfLinePromise k line v → OfLinePromise k line' v' → v.number ≡ 0
    → v'.number ≡ 0 → take v.body (decoded line) ≡ take v'.body (decoded line') → line ≡ line'
one_line k line line' v v' e e' z z' q = own_line k line v e z ∙ ap (line_of k) q ∙ sym (own_line k line' v' e' z')

own_frame : (k : KeySet) (f : List ℕ) (v : FrameAnswer) → Bytes f → JudgePromise k f v → v.number ≡ 0 → f ≡ frame_of k (take v.body f)
own_frame k f v h e z = sym (ap (frame_of k) (front_is k f e z) ∙ frame_again k f h (sym (judged-number k f e) ∙ z))

one_frame : (k : KeySet) (f f' : List ℕ) (v v' : FrameAnswer) → Bytes f → Bytes f' → JudgePromise k f v → JudgePromise k f' v'
    → v.number ≡ 0 → v'.number ≡ 0 → take v.body f ≡ take v'.body f' → f ≡ f'
one_frame k f f' v v' h h' e e' z z' q = own_frame k f v h e z ∙ ap (frame_of k) q ∙ sym (own_frame k f' v' h' e' z')

-- a line that says a frame is accepted just where it is the line of its body
pub line_own : (k : KeySet) (line : List ℕ) (r : FrameAnswer) → Taken k → Frame k.bits (decoded line) → decode_number 255 line ≡ 0
    → OfLinePromise k line r → (r.number ≡ 0) ↔ (line ≡ line_of k (body_of k (decoded line)))
unfolding body_of
line_own k line r set h read e =
    let g = decoded line in
    let body = body_of k g in
    let n = body_length_is k g in
    let fits : Fits k (length body) = record { set = set; some = omega (arith, n, h.some); most = omega (arith, n, h.some, h.most) } in (
      λ z. sym (line_again k line read (zero k line r e z)),
      λ q.
          ap (λ (x : FrameAnswer). x.number)
          (e ∙ ap (line_answer k) q ∙ line_verdict k body fits (bytes_take (body_end k.bits g) g (decoded_bytes line))),
    )

-- an empty line decodes to no bytes
empty_read : decode_number 255 [] ≡ 0
unfolding is_hex all_digits
empty_read = sym (number_rest 255 [] (omega arith) (omega arith) (unless_holds 9 {t = is_hex []} refl))

empty_decoded : decoded [] ≡ []
unfolding decoded
empty_decoded = refl

-- THE TWO PROGRAMS
module _ (k : KeySet) (set : Taken k) where
  -- an empty line is no frame
  empty_verdict : line_answer k [] ≡ refused_frame 8
  empty_verdict =
      let n : frame_number k 0 ≡ 8 = sym (frame_short k 0 (taken_set k set) refl (omega arith) (omega arith)) in
      line_read k [] (line_answer k []) refl empty_read ∙ ap (frame_answer k) empty_decoded
      ∙ sym (answer_refused k [] (sym n) (λ q. omega arith))

  -- the line that send writes, as check sees it
  sent_verdict : (l : List ℕ) → line_answer k (sent_line k l) ≡ arrival k l
  unfolding arrival sent_line
  sent_verdict l = by (is_sent k l) refl
    where
      by : (b : Bool) → is_sent k l ≡ b
          → line_answer k (pick b (line_of k (decoded l)) [])
          ≡ pick (eqb (length (pick b (line_of k (decoded l)) [])) 0) (refused_frame 8) (accepts_body k (decoded l))
      by true e =
          let fits = (sent_told k l e).fits in
          rw (ne_eqb (length (line_of k (decoded l))) 0 (λ q. omega (arith, line_some k (decoded l) fits, q)))
          (line_verdict k (decoded l) fits (decoded_bytes l))
      by false e = empty_verdict

  sent_plain : (l : List ℕ) → plain (sent_line k l) ≡ sent_line k l
  unfolding sent_line plain
  sent_plain l = by (is_sent k l) refl
    where
      by : (b : Bool) → is_sent k l ≡ b → plain (pick b (line_of k (decoded l)) []) ≡ pick b (line_of k (decoded l)) []
      by true e = line_plain k (decoded l) (sent_told k l e).fits (decoded_bytes l)
      by false e = refl

  -- all that it writes
  sent_lines : (ls : List (List ℕ)) → told_at verdict_text k (lines (told_at sent_text k ls)) ≡ told_at arrival_text k ls
  unfolding told_at lines sent_text verdict_text arrival_text
  sent_lines [] = refl
  sent_lines (l ∷ ls) =
      ap (λ (x : List ℕ). told_at verdict_text k (lines x)) (append_assoc (sent_line k l) (line_feed ∷ []) (told_at sent_text k ls))
      ∙ ap (told_at verdict_text k) (lines_feed (sent_line k l) (told_at sent_text k ls) (sent_plain l))
      ∙ ap₂ (λ (x y : List ℕ). x ++ y) (ap text_of (sent_verdict l)) (sent_lines ls)

-- a program's output behind a key line that is accepted
module _ (key : List ℕ) {made : KeyAnswer} (e : ReadPromise key made) (z : made.number ≡ 0) where
  key_read : key_line_number key ≡ 0
  key_read =
      ⊎_elim (λ n. n) (λ n. absurd (n (sym (faulty_number key made e n) ∙ z))) (none_or_some (key_line_number key))

  key_plain : plain key ≡ key
  unfolding key_line_number
  key_plain =
      hex_plain key (unless_none 8 (is_hex key) (none_of_two (unless (eqb (length key) 68) 8) (unless (is_hex key) 9) key_read).1)

  key_taken : Taken made.keys
  key_taken = made_taken (record { answered = read-keys key made e key_read; done = z })

  behind_keys : (refusal : ℕ → List ℕ) (tell : KeySet → List ℕ → List ℕ) (rest : List ℕ)
      → output refusal tell (key ++ (line_feed ∷ rest)) ≡ told_at tell made.keys (lines rest)
  unfolding output lines_told under_keys
  behind_keys refusal tell rest =
      ap (lines_told refusal tell) (lines_feed key rest key_plain)
      ∙ ap (λ (x : KeyAnswer). under_keys refusal tell x (lines rest)) (sym e)
      ∙ rw (eq-eqb made.number 0 z)

  sent_checked : (rest : List ℕ)
      → check_output (key ++ (line_feed ∷ send_output (key ++ (line_feed ∷ rest)))) ≡ told_at arrival_text made.keys (lines rest)
  unfolding check_output send_output
  sent_checked rest =
      behind_keys refusal_text verdict_text (output no_text sent_text (key ++ (line_feed ∷ rest)))
      ∙ ap (λ (x : List ℕ). told_at verdict_text made.keys (lines x)) (behind_keys no_text sent_text rest)
      ∙ sent_lines made.keys key_taken (lines rest)

-- by what was written: of either program it is its output
pub ran_output : {kind : ℕ} {out : List ℕ → List ℕ} {input text : List ℕ} → InParts kind out → Ran kind input text → text ≡ out input
ran_output {kind} {out} parts r =
    r.told
    ∙ parts.joined_is r.start r.end r.calls r.space r.after r.last r.begun r.stepped r.room r.finished
    ∙ ap out r.took

ran_sent_checked : (key rest sent checked : List ℕ) (made : KeyAnswer) → ReadPromise key made → made.number ≡ 0
    → Ran send_kind (key ++ (line_feed ∷ rest)) sent → Ran check_kind (key ++ (line_feed ∷ sent)) checked
    → checked ≡ told_at arrival_text made.keys (lines rest)
ran_sent_checked key rest sent checked made e z s c =
    ran_output (check_in_parts check_kind (λ q. omega arith)) c
    ∙ ap (λ (x : List ℕ). check_output (key ++ (line_feed ∷ x))) (ran_output send_in_parts s)
    ∙ sent_checked key e z rest

pub shore_and_ship : ShoreAndShip
shore_and_ship = record {
  written_accepted = λ k body space after w v h p z e. written_accepted k body space after w (λ j. record { fits = h j }) p z v e;
  written_opened =
      λ k body space after w frame o h p z e q.
      written_opened k body space after w (λ j. record { fits = h j }) p z frame o e q;
  accepted_written = λ k line space after w v e z room q. accepted_written k line v e z space after w room q;
  one_line = one_line;
  one_frame =
      λ k f f' v v' h h' e e' z z' q.
      one_frame k f f' v v' (λ j. record { fits = h j }) (λ j. record { fits = h' j }) e e' z z' q;
  sent_checked = λ key rest made e z. sent_checked key e z rest;
  ran_sent_checked = ran_sent_checked;
}
