-- What decoding and encoding tell their caller: which numbers are given, what 0 says, and what then stands in the space.
-- Assumes nothing.
use Rattle.std.proofs.Common.{◌≡◌, refl, ap, sym, ◌∙◌, ⊎_elim, Bool, true, false, List, ◌++◌, ℕ, ◌*◌, ◌/◌, ◌≤◌, arith, eqb, leb, length}
use Rattle.std.proofs.Common.{take, Ok, Err, drop, length-append, length-drop, leb-true, eq-eqb, ne_eqb, eqb-true}
use Rattle.std.proofs.Math.Seq.{take-append_seam}
use Rattle.laws.proofs.Cases.{none_or_some}
use Rattle.laws.specs.Fault.{unless}
use Rattle.laws.specs.Pick.{pick}
use Rattle.laws.proofs.Fault.{unless_none, none_of_three}
use Rattle.numbers.specs.declared.Refusal.{Refusal}
use Rattle.numbers.proofs.Number.{not_done}
use Rattle.hex_line.specs.Told.{told_line}
use Rattle.hex_line.specs.declared.LineAnswer.{LineAnswer}
use Rattle.hex_line.specs.Line.{is_hex, decoded, encoded}
use Rattle.hex_line.specs.Answer.{decode_number, encode_number, refused_line, written_answer, written_space}
use Rattle.hex_line.specs.Promise.{Writes, DecodePromise, EncodePromise}
use Rattle.hex_line.proofs.BothWays.{decoded_length, encoded_length}
use Rattle.hex_line.proofs.Outcome.{number_room}

-- a line that may be decoded, into a space of n bytes
pub record Decodes (n : ℕ) (line : List ℕ) : Type 0 where
  pub room : 255 ≤ n
  pub fits : length line ≤ 510
  pub hex : is_hex line ≡ true

module _ (n : ℕ) (line : List ℕ) where
  -- what number 0 says of it
  pub decodes : decode_number n line ≡ 0 → Decodes n line
  unfolding decode_number
  decodes e =
      let f = none_of_three (unless (leb 255 n) 3) (unless (leb (length line) 510) 8) (unless (is_hex line) 9) e in
      record {
        room = leb-true 255 n (unless_none 2 (leb 255 n) f.0);
        fits = leb-true (length line) 510 (unless_none 7 (leb (length line) 510) f.1);
        hex = unless_none 8 (is_hex line) f.2;
      }

-- an outcome of writing x that is permitted, n being the number of the first fault
module _ (n : ℕ) (x space : List ℕ) {r : LineAnswer} {after : List ℕ} (p : Writes n x space r after) where
  -- n is the number that is given
  pub number_by : r.number ≡ n
  unfolding written_answer refused_line
  number_by = ap (λ (a : LineAnswer). a.number) p.0 ∙ by (eqb n 0) refl
    where
      by : (t : Bool) → eqb n 0 ≡ t → (pick t (record { number = 0; written = length x }) (refused_line n)).number ≡ n
      by true e = sym (eqb-true n 0 e)
      by false e = refl

  -- 0: so much at the front of the space is x, and behind it the space is as it was
  pub written_by : n ≡ 0 → (r.written ≡ length x) × (after ≡ x ++ drop (length x) space)
  unfolding written_answer written_space
  written_by e =
      let holds = eq-eqb n 0 e in
      (ap (λ (a : LineAnswer). a.written) (rw holds at p.0), rw holds at p.1)

  -- otherwise nothing is written
  unwritten_by : (n ≡ 0 → ⊥) → (after ≡ space) × (r.written ≡ 0)
  unfolding written_answer written_space refused_line
  unwritten_by h =
      let fails = ne_eqb n 0 h in
      (rw fails at p.1, ap (λ (a : LineAnswer). a.written) (rw fails at p.0))

  -- which is where another number is given
  pub unwritten : (r.number ≡ 0 → ⊥) → (after ≡ space) × (r.written ≡ 0)
  unwritten h = unwritten_by (λ e. h (number_by ∙ e))

-- a line that was decoded: so many bytes at the front of the space are the line's, and behind them it is as it was
pub record Written (line space : List ℕ) (r : LineAnswer) (after : List ℕ) : Type 0 where
  pub may : Decodes (length space) line
  pub count : r.written ≡ length line / 2
  pub laid : after ≡ decoded line ++ drop (length (decoded line)) space
  pub front : take r.written after ≡ decoded line

module _ (line space : List ℕ) {r : LineAnswer} {after : List ℕ} (p : DecodePromise line space r after) where
  pub number_is : r.number ≡ decode_number (length space) line
  number_is = number_by (decode_number (length space) line) (decoded line) space p

  pub is_written : r.number ≡ 0 → Written line space r after
  is_written z =
      let e = sym number_is ∙ z in
      let w = written_by (decode_number (length space) line) (decoded line) space p e in
      record {
        may = decodes (length space) line e;
        count = w.0 ∙ decoded_length line;
        laid = w.1;
        front = rw (w.0, w.1) (take-append_seam (decoded line) (drop (length (decoded line)) space));
      }

  pub is_unwritten : (r.number ≡ 0 → ⊥) → (after ≡ space) × (r.written ≡ 0)
  is_unwritten h = unwritten (decode_number (length space) line) (decoded line) space p h

  -- in any case at most 255 bytes are counted, and the space is as long as it was
  written_most : r.written ≤ 255
  written_most =
      ⊎_elim (λ z. let w = is_written z in omega (arith, w.count, w.may.fits)) (λ h. omega (arith, (is_unwritten h).1))
      (none_or_some r.number)

  after_length : length after ≡ length space
  after_length = ⊎_elim written (λ h. ap length (is_unwritten h).0) (none_or_some r.number)
    where
      written : r.number ≡ 0 → length after ≡ length space
      written z =
          let w = is_written z in
          let n = decoded_length line in
          ap length w.laid ∙ length-append (decoded line) (drop (length (decoded line)) space)
          ∙ omega (arith, length-drop (length (decoded line)) space, w.may.fits, w.may.room)

-- decoded into a space of the least size: the number is the line's, and what was written lies within the space
module _
    (line space : List ℕ)
    {r : LineAnswer}
    {after : List ℕ}
    (size : length space ≡ 255)
    (p : DecodePromise line space r after)
  where
    pub least_number : decode_number 255 line ≡ r.number
    least_number = ap (λ (n : ℕ). decode_number n line) (sym size) ∙ sym (number_is line space p)

    pub least_within : r.written ≤ length after
    least_within = omega (arith, written_most line space p, after_length line space p)

-- what is encoded in a space that has room for it stands before what it held
module _ (x space : List ℕ) (h : 2 * length x ≤ length space) {after : List ℕ} where
  pub encoded_before : {r : LineAnswer} → EncodePromise x space r after → after ≡ encoded x ++ drop (length (encoded x)) space
  encoded_before p = (written_by (encode_number (length space) x) (encoded x) space p (sym (number_room (length space) x h))).1

  -- it is not refused, and is counted
  pub encoded_all : (n : ℕ) → EncodePromise x space (told_line (Ok n)) after → n ≡ 2 * length x
  unfolding told_line
  encoded_all n p =
      (written_by (encode_number (length space) x) (encoded x) space p (sym (number_room (length space) x h))).0 ∙ encoded_length x

  pub encoded_refused : (why : Refusal) → EncodePromise x space (told_line (Err why)) after → ⊥
  unfolding told_line
  encoded_refused why p =
      not_done why (number_by (encode_number (length space) x) (encoded x) space p ∙ sym (number_room (length space) x h))
