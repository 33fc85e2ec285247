-- The demands on the calls over lines hold.
-- Assumes nothing.
use Rattle.std.specs.Prelude.{◌≡◌, true, List, ℕ, ◌≤◌, eqb, length, get_or, take, drop}
use Rattle.std.proofs.Common.{ap, sym, ⊎_elim, arith, length-drop, length-take-le, eq-eqb, ne_eqb, eqb-true}
use Rattle.laws.specs.Fault.{unless}
use Rattle.laws.proofs.Fault.{unless_holds, unless_none, none_of_two, two_none}
use Rattle.keys.specs.Told.{no_set}
use Rattle.keys.specs.declared.KeyAnswer.{KeyAnswer}
use Rattle.keys.specs.declared.KeySet.{KeySet}
use Rattle.keys.specs.Answer.{refused_keys}
use Rattle.keys.specs.Promise.{KeyCallPromise}
use Rattle.hex_line.specs.Answer.{decode_number}
use Rattle.hex_line.specs.Line.{is_hex, decoded}
use Rattle.hex_line.proofs.BothWays.{decoded_length}
use Rattle.hex_line.proofs.Outcome.{number_rest}
use Rattle.keyline.specs.KeyLine.{key_line_number, said_keys, key_line_answer}
use Rattle.keyline.specs.Promise.{ReadPromise}
use Rattle.frame.specs.declared.FrameAnswer.{FrameAnswer}
use Rattle.frame.specs.Frame.{refused_frame}
use Rattle.frame.specs.Promise.{JudgePromise}
use Rattle.answer.specs.Line.{line_answer}
use Rattle.answer.specs.Promise.{OfLinePromise}
use Rattle.demands.proofs.KeySet.{refused_keys_is}
use Rattle.laws.proofs.Cases.{none_or_some}

-- the key line: its own fault is the answer, and otherwise the key call's
module _ (line : List ℕ) (made : KeyAnswer) (e : ReadPromise line made) where
  faulty : (key_line_number line ≡ 0 → ⊥) → made ≡ refused_keys (key_line_number line)
  unfolding key_line_answer
  faulty h = rw (ne_eqb (key_line_number line) 0 h) at e

  pub faulty_number : (key_line_number line ≡ 0 → ⊥) → made.number ≡ key_line_number line
  unfolding refused_keys
  faulty_number h = ap (λ (x : KeyAnswer). x.number) (faulty h)

  faulty_rest : (key_line_number line ≡ 0 → ⊥) → (made.steps ≡ 0) × (made.keys ≡ no_set)
  unfolding refused_keys
  faulty_rest h = (ap (λ (x : KeyAnswer). x.steps) (faulty h), ap (λ (x : KeyAnswer). x.keys) (faulty h))

  pub read : key_line_number line ≡ 0
      → KeyCallPromise (get_or (decoded line) 0 0) (get_or (decoded line) 1 0) (take 16 (drop 2 (decoded line)))
      (take 16 (drop 18 (decoded line))) made
  unfolding key_line_answer said_keys
  read z = rw (eq-eqb (key_line_number line) 0 z) at e

  pub key_line_refused : (made.number ≡ 0 → ⊥) → (made.steps ≡ 0) × (made.keys ≡ no_set)
  key_line_refused h =
      ⊎_elim (λ z. refused_keys_is _ _ _ _ made (read z) h) faulty_rest (none_or_some (key_line_number line))

-- 68 digits are no fault
pub key_line_read : (line : List ℕ) (made : KeyAnswer) → length line ≡ 68 → is_hex line ≡ true → ReadPromise line made
    → KeyCallPromise (get_or (decoded line) 0 0) (get_or (decoded line) 1 0) (take 16 (drop 2 (decoded line)))
    (take 16 (drop 18 (decoded line))) made
unfolding key_line_number
key_line_read line made h x e =
    read line made e
    (two_none (unless (eqb (length line) 68) 8) (unless (is_hex line) 9) (sym (unless_holds 8 (eq-eqb (length line) 68 h)))
    (sym (unless_holds 9 x)))

-- without a fault there are 68 of them, and they say K and L of sixteen bytes
pub sized : (line : List ℕ) → key_line_number line ≡ 0 → length line ≡ 68
unfolding key_line_number
sized line z = eqb-true (length line) 68 (unless_none 7 (eqb (length line) 68) (none_of_two _ (unless (is_hex line) 9) z).0)

pub part_size : (line : List ℕ) (at : ℕ) → at ≤ 18 → length line ≡ 68 → length (take 16 (drop at (decoded line))) ≡ 16
part_size line at l h =
    length-take-le 16 (drop at (decoded line)) (simp length-drop (omega (arith, decoded_length line)))

-- a frame line: its own fault is the answer, and otherwise the verdict on the frame
module _ (k : KeySet) (line : List ℕ) (r : FrameAnswer) (e : OfLinePromise k line r) where
  pub line_faulty : (decode_number 255 line ≡ 0 → ⊥) → r ≡ refused_frame (decode_number 255 line)
  unfolding line_answer
  line_faulty h = rw (ne_eqb (decode_number 255 line) 0 h) at e

  pub line_read : decode_number 255 line ≡ 0 → JudgePromise k (decoded line) r
  unfolding line_answer
  line_read z = rw (eq-eqb (decode_number 255 line) 0 z) at e

  -- at most 510 digits, in pairs, are no fault
  pub line_judged : length line ≤ 510 → is_hex line ≡ true → JudgePromise k (decoded line) r
  line_judged l x = line_read (sym (number_rest 255 line (omega arith) l (unless_holds 9 x)))
