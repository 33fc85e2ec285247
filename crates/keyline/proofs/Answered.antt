-- The answer of a key line: by its first fault, or by what its bytes say at the front of the space that they were decoded into.
-- Assumes nothing.
use Rattle.std.proofs.Common.{◌≡◌, refl, ap, ap₂, sym, ◌∙◌, Ok, Err, List, ◌++◌, ℕ, ◌+◌, ◌≤◌, arith, length, get_or, take, drop}
use Rattle.std.proofs.Common.{length-drop, eq-eqb, ne_eqb}
use Rattle.std.proofs.Math.ListN.{get_or-append}
use Rattle.std.proofs.Math.Seq.{take-append-le, drop-append-le}
use Rattle.laws.proofs.Fault.{unless_holds, unless_fails, fault_found, fault_pass, fault_last}
use Rattle.block.specs.Block.{Block, sixteen}
use Rattle.block.proofs.Sixteen.{sixteen_whole}
use Rattle.numbers.specs.declared.Refusal.{Refusal}
use Rattle.numbers.specs.Told.{number_of}
use Rattle.numbers.proofs.Number.{not_done}
use Rattle.keys.specs.Told.{told_keys}
use Rattle.keys.specs.declared.KeyAnswer.{KeyAnswer}
use Rattle.keys.specs.Answer.{refused_keys, key_answer}
use Rattle.hex_line.specs.Told.{told_line}
use Rattle.hex_line.specs.declared.LineAnswer.{LineAnswer}
use Rattle.hex_line.specs.Answer.{decode_number}
use Rattle.hex_line.specs.Line.{decoded}
use Rattle.hex_line.specs.Promise.{DecodePromise}
use Rattle.hex_line.proofs.BothWays.{decoded_length}
use Rattle.hex_line.proofs.Outcome.{number_rest}
use Rattle.hex_line.proofs.Told.{number_is, is_written}
use Rattle.keyline.specs.KeyLine.{key_line_number, said_keys, key_line_answer}

-- what the bytes say, from the two blocks that were read out of them
pub said_by : (bytes : List ℕ) {k l : Block} {r : KeyAnswer} → 34 ≤ length bytes → k ≡ sixteen (drop 2 bytes)
    → l ≡ sixteen (drop 18 bytes) → r ≡ key_answer (get_or bytes 0 0) (get_or bytes 1 0) k l → r ≡ said_keys bytes
unfolding said_keys
said_by bytes h ek el er =
    er
    ∙ ap₂ (key_answer (get_or bytes 0 0) (get_or bytes 1 0)) (ek ∙ sixteen_whole bytes 2 (omega arith))
    (el ∙ sixteen_whole bytes 18 (omega arith))

-- sixteen bytes from one on are those of the front, where it has as many
part_front : (x y : List ℕ) (at : ℕ) → at + 16 ≤ length x → take 16 (drop at (x ++ y)) ≡ take 16 (drop at x)
part_front x y at h =
    ap (take 16) (drop-append-le at x y (omega arith)) ∙ take-append-le 16 (drop at x) y (simp length-drop (omega arith))

-- what stands behind them says nothing
said_front : (x y : List ℕ) → 34 ≤ length x → said_keys (x ++ y) ≡ said_keys x
unfolding said_keys
said_front x y h =
    rw (
      get_or-append x y 0 0 (omega arith),
      get_or-append x y 0 1 (omega arith),
      part_front x y 2 (omega arith),
      part_front x y 18 (omega arith),
    )

module _ (line : List ℕ) where
  -- the first fault: of the length, or else of the characters, which decoding it judges
  pub number_length : (length line ≡ 68 → ⊥) → 8 ≡ key_line_number line
  unfolding key_line_number
  number_length h = fault_found _ (unless_fails 8 (ne_eqb (length line) 68 h)) (λ z. omega arith)

  pub number_decoded : (n : ℕ) → 255 ≤ n → length line ≡ 68 → decode_number n line ≡ key_line_number line
  unfolding key_line_number
  number_decoded n room h =
      sym (number_rest n line room (omega arith) refl)
      ∙ fault_pass _ (unless_holds 8 (eq-eqb (length line) 68 h)) refl (fault_last refl)

  -- refused: the answer is the refusal
  pub read_refused : (why : Refusal) → number_of why ≡ key_line_number line → told_keys (Err why) ≡ key_line_answer line
  unfolding told_keys refused_keys key_line_answer
  read_refused why e = rw (ne_eqb (key_line_number line) 0 (λ z. not_done why (e ∙ z))) (ap refused_keys e)

  -- decoded into a space: the refusal of decoding it, or what its bytes say
  module _ (space : List ℕ) {after : List ℕ} (room : 255 ≤ length space) (h : length line ≡ 68) where
    number_read : {a : LineAnswer} → DecodePromise line space a after → a.number ≡ key_line_number line
    number_read p = number_is line space p ∙ number_decoded (length space) room h

    pub read_unsaid : (why : Refusal) → DecodePromise line space (told_line (Err why)) after
        → told_keys (Err why) ≡ key_line_answer line
    unfolding told_line
    read_unsaid why p = read_refused why (number_read p)

    pub read_said : (n : ℕ) {r : KeyAnswer} → DecodePromise line space (told_line (Ok n)) after → r ≡ said_keys after
        → r ≡ key_line_answer line
    unfolding told_line key_line_answer
    read_said n p q =
        let w = is_written line space p refl in
        let size : 34 ≤ length (decoded line) = omega (arith, decoded_length line) in
        q ∙ ap said_keys w.laid ∙ said_front (decoded line) (drop (length (decoded line)) space) size
        ∙ rw (eq-eqb (key_line_number line) 0 (sym (number_read p)))
