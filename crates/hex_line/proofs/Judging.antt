-- Whether a line is pairs of digits: its faults gathered from its start, by one character more, to its end; and what it tells of each
-- character.
-- Assumes nothing.
use Rattle.std.proofs.Common.{refl, ◌≡◌, ap, ap₂, sym, ◌∙◌, true, List, [], ◌∷◌, ℕ, zero, suc, ◌+◌, ◌%◌, ◌≤◌, ◌<◌, not-suc-le-zero}
use Rattle.std.proofs.Common.{le_of_suc-le-suc, add-one, eqb, length, get_or, take, take_all, eqb-true, Bool, false, not}
use Rattle.std.proofs.Common.{◌||◌}
use Rattle.laws.specs.Agree.{both}
use Rattle.laws.proofs.Both.{both_holds, both_true, both_assoc}
use Rattle.hex_line.specs.Digit.{is_digit}
use Rattle.hex_line.specs.Line.{all_digits, is_hex}
use Rattle.hex_line.specs.Inner.{strange}
use Rattle.hex_line.proofs.Digits.{strange_test}

-- the digits at the front, and one character more
digits_more : (line : List ℕ) (k : ℕ) → k < length line
    → all_digits (take (suc k) line) ≡ both (all_digits (take k line)) (is_digit (get_or line k 0))
unfolding all_digits
digits_more [] k h = absurd (not-suc-le-zero h)
digits_more (c ∷ cs) zero h = both_true (is_digit c)
digits_more (c ∷ cs) (suc k) h =
    ap (both (is_digit c)) (digits_more cs k (le_of_suc-le-suc h))
    ∙ sym (both_assoc (is_digit c) (all_digits (take k cs)) (is_digit (get_or cs k 0)))

-- each character of a line of digits
digits_at : (line : List ℕ) (k : ℕ) → k < length line → all_digits line ≡ true → is_digit (get_or line k 0) ≡ true
unfolding all_digits
digits_at [] k h e = absurd (not-suc-le-zero h)
digits_at (c ∷ cs) zero h e = (both_holds (is_digit c) (all_digits cs) e).0
digits_at (c ∷ cs) (suc k) h e = digits_at cs k (le_of_suc-le-suc h) (both_holds (is_digit c) (all_digits cs) e).1

-- what it tells that a line is pairs of digits
pub record Hex (line : List ℕ) : Type 0 where
  pub even : length line % 2 ≡ 0
  pub digits : (k : ℕ) → k < length line → is_digit (get_or line k 0) ≡ true

pub hex : (line : List ℕ) → is_hex line ≡ true → Hex line
unfolding is_hex
hex line e =
    let f = both_holds (eqb (length line % 2) 0) (all_digits line) e in
    record { even = eqb-true (length line % 2) 0 f.0; digits = λ k h. digits_at line k h f.1 }

-- the faults of the first i characters are gathered, and whether the line has an odd number of them
pub record Gathered (line : List ℕ) (faulty : Bool) (i : ℕ) : Type 0 where
  pub judged : not faulty ≡ both (eqb (length line % 2) 0) (all_digits (take i line))

twice : (b : Bool) → not (not b) ≡ b
twice true = refl
twice false = refl

neither : (a b : Bool) → not (a || b) ≡ both (not a) (not b)
neither true b = refl
neither false b = refl

pub gathered_none : (line : List ℕ) → Gathered line (not (eqb (length line % 2) 0)) 0
unfolding all_digits
gathered_none line = record { judged = twice (eqb (length line % 2) 0) ∙ sym (both_true (eqb (length line % 2) 0)) }

pub gathered_more : {line : List ℕ} {faulty f : Bool} {i : ℕ} → Gathered line faulty i → i < length line → f ≡ strange (get_or line i 0)
    → Gathered line (faulty || f) (i + 1)
gathered_more {line} {faulty} {f} {i} g h e = record {
  judged =
      let one : not f ≡ is_digit (get_or line i 0) = ap not e ∙ strange_test (get_or line i 0) in
      neither faulty f ∙ ap₂ both g.judged one
      ∙ both_assoc (eqb (length line % 2) 0) (all_digits (take i line)) (is_digit (get_or line i 0))
      ∙ ap (both (eqb (length line % 2) 0)) (rw add-one (sym (digits_more line i h)));
}

pub gathered_all : {line : List ℕ} {faulty : Bool} {i : ℕ} → Gathered line faulty i → length line ≤ i → not faulty ≡ is_hex line
unfolding is_hex
gathered_all {line} {faulty} {i} g h =
    g.judged ∙ ap (λ (l : List ℕ). both (eqb (length line % 2) 0) (all_digits l)) (take_all i line h)
