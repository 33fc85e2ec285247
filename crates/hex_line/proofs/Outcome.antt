-- What decoding and encoding answer and write, by the first fault, or by what was laid in the space.
-- Assumes nothing.
use Rattle.std.proofs.Common.{◌≡◌, refl, ap, sym, ◌∙◌, List, ◌++◌, ℕ, ◌*◌, ◌≤◌, ◌<◌, arith, length, drop, le-leb, eq-eqb, ne_eqb, Ok, Err}
use borrow.Author.Tests.{lt-leb}
use Rattle.laws.specs.Fault.{unless}
use Rattle.laws.proofs.Fault.{unless_holds, unless_fails, fault_found, fault_pass, fault_last}
use Rattle.numbers.specs.declared.Refusal.{Refusal}
use Rattle.numbers.specs.Told.{number_of}
use Rattle.numbers.proofs.Number.{not_done}
use Rattle.hex_line.specs.Told.{told_line}
use Rattle.hex_line.specs.Line.{is_hex}
use Rattle.hex_line.specs.Answer.{decode_number, encode_number, refused_line, written_answer, written_space}
use Rattle.hex_line.specs.Promise.{Writes}

-- the first fault of a line, for a space of n bytes
module _ (n : ℕ) (line : List ℕ) where
  pub number_size : n < 255 → 3 ≡ decode_number n line
  unfolding decode_number
  number_size h = fault_found _ (unless_fails 3 (lt-leb 255 n h)) (λ z. omega arith)

  module _ (room : 255 ≤ n) where
    pub number_length : 510 < length line → 8 ≡ decode_number n line
    unfolding decode_number
    number_length h =
        fault_pass _ (unless_holds 3 (le-leb 255 n room)) refl
        (fault_found _ (unless_fails 8 (lt-leb (length line) 510 h)) (λ z. omega arith))

    -- its length is no fault, so it is for its characters to say
    pub number_rest : length line ≤ 510 → {r : ℕ} → r ≡ unless (is_hex line) 9 → r ≡ decode_number n line
    unfolding decode_number
    number_rest h e =
        fault_pass _ (unless_holds 3 (le-leb 255 n room)) refl
        (fault_pass _ (unless_holds 8 (le-leb (length line) 510 h)) refl (fault_last e))

-- the fault of a space of n bytes, for the characters of bytes
module _ (n : ℕ) (bytes : List ℕ) where
  pub number_room : 2 * length bytes ≤ n → 0 ≡ encode_number n bytes
  unfolding encode_number
  number_room h = fault_last (unless_holds 3 (le-leb (2 * length bytes) n h))

  pub number_cramped : n < 2 * length bytes → 3 ≡ encode_number n bytes
  unfolding encode_number
  number_cramped h = fault_last (unless_fails 3 (lt-leb (2 * length bytes) n h))

-- the outcome of writing x, by the number n of the first fault
module _ (n : ℕ) (x space : List ℕ) where
  -- refused: the answer is the refusal, and the space as it was
  pub writes_refused : (why : Refusal) → number_of why ≡ n → Writes n x space (told_line (Err why)) space
  unfolding refused_line told_line written_answer written_space
  writes_refused why e =
      let fails = ne_eqb n 0 (λ z. not_done why (e ∙ z)) in
      (rw fails (ap refused_line e), rw fails)

  -- no fault: 0, how much it is, and x over the front of the space
  pub writes_done : {w : ℕ} {after : List ℕ} → 0 ≡ n → w ≡ length x → after ≡ x ++ drop w space
      → Writes n x space (told_line (Ok w)) after
  unfolding told_line written_answer written_space
  writes_done e size q =
      let holds = eq-eqb n 0 (sym e) in (
        rw holds (ap (λ (w : ℕ). record { number = 0; written = w }) size),
        q ∙ rw holds (ap (λ (w : ℕ). x ++ drop w space) size),
      )
