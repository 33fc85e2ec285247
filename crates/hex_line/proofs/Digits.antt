-- What a character stands for, and the character that stands for a value: each undoes the other, and the code reckons both. By tests over
-- all 256 characters and over all 16 values.
-- Assumes nothing.
use Rattle.std.proofs.Common.{◌≡◌, refl, ap, sym, ◌∙◌, Bool, true, false, ⊎_elim, ℕ, ◌+◌, ◌*◌, ◌/◌, ◌%◌, ◌≤◌, ◌<◌, arith}
use Rattle.std.proofs.Common.{T, eqb, ltb, le-leb, eq-eqb, Option, None, Some, not, ◌&&◌, ◌||◌}
use mir.Val.{bool_byte}
use borrow.Author.Tests.{lt-leb}
use Rattle.laws.specs.Agree.{agree}
use Rattle.laws.specs.Pick.{pick}
use Rattle.laws.proofs.Agree.{agreed}
use Rattle.laws.proofs.Cases.{below_or_not}
use Rattle.hex_line.specs.Digit.{digit_of, read_number, read_value, is_digit, value_of, character_of}
use Rattle.hex_line.specs.Inner.{strange}

-- G and whatever stands behind it, the lower case letters too, is no digit
pub beyond : (c : ℕ) → 71 ≤ c → digit_of c ≡ None
unfolding digit_of
beyond c h = rw (le-leb 48 c (omega arith), lt-leb c 57 (omega arith), le-leb 65 c (omega arith), lt-leb c 70 (omega arith))

-- so a digit is one of the 256 characters
digit_below : (c : ℕ) → is_digit c ≡ true → c < 256
unfolding read_number
digit_below c d = ⊎_elim (λ h. h) (λ h. absurd (none h)) (below_or_not c 256)
  where
    none : 256 ≤ c → ⊥
    none h =
        let e : is_digit c ≡ false = ap (λ (r : Option ℕ). eqb (read_number r) 0) (beyond c (omega arith)) in
        let z : ◌≡◌ {A = ℕ} 0 1 = cc in
        omega arith

-- the tests of the definitions
module _ (c : ℕ) (h : c < 256) where
  character_test : pick (is_digit c) (character_of (value_of c)) c ≡ c
  unfolding digit_of read_number read_value
  character_test = agreed (λ x. pick (is_digit x) (character_of (value_of x)) x) (λ x. x) 256 tt c h

  half_test : value_of c / 16 ≡ 0
  unfolding digit_of read_number read_value
  half_test = agreed (λ x. value_of x / 16) (λ x. 0) 256 tt c h

-- the value of a digit, as the code reckons it from four numbers that pass the test
abbrev reckoned : ℕ → ℕ → ℕ → ℕ → ℕ → ℕ
reckoned low high short all c = pick (is_digit c) ((c % low + c / high * short) % all) 0

pub value_reckoned : (low high short all : ℕ) → T (agree (reckoned low high short all) value_of 256) → (c : ℕ) → is_digit c ≡ true
    → (c % low + c / high * short) % all ≡ value_of c
value_reckoned low high short all t c d =
    rw d at (agreed (reckoned low high short all) value_of 256 t c (digit_below c d))

-- whether a character is strange, as the code finds it between four bounds that pass the test
abbrev outside : ℕ → ℕ → ℕ → ℕ → ℕ → Bool
outside first last a f c = (ltb c first || ltb last c) && (ltb c a || ltb f c)

same_byte : (x y : Bool) → bool_byte x ≡ bool_byte y → x ≡ y
same_byte true true e = refl
same_byte true false e = absurd (omega arith)
same_byte false true e = absurd (omega arith)
same_byte false false e = refl

pub strange_found : (first last a f : ℕ) → T (agree (λ x. bool_byte (outside first last a f x)) (λ x. bool_byte (strange x)) 256)
    → (c : ℕ) → c < 256 → outside first last a f c ≡ strange c
strange_found first last a f t c h =
    same_byte _ _ (agreed (λ x. bool_byte (outside first last a f x)) (λ x. bool_byte (strange x)) 256 t c h)

-- a value is below 16
pub value_small : (c : ℕ) → value_of c < 16
unfolding read_value
value_small c =
    ⊎_elim (λ h. omega (arith, half_test c h)) (λ h. rw (beyond c (omega arith)) (omega arith)) (below_or_not c 256)

-- the character of a digit's value is that digit
pub character_value : (c : ℕ) → is_digit c ≡ true → character_of (value_of c) ≡ c
character_value c d = rw d at (character_test c (digit_below c d))

module _ (v : ℕ) (h : v < 16) where
  -- the value of a value's character is that value
  pub value_character : value_of (character_of v) ≡ v
  unfolding digit_of read_value
  value_character = agreed (λ x. value_of (character_of x)) (λ x. x) 16 tt v h

  -- which is a digit
  pub character_digit : is_digit (character_of v) ≡ true
  unfolding digit_of read_number
  character_digit =
      eq-eqb (read_number (digit_of (character_of v))) 0
      (agreed (λ x. read_number (digit_of (character_of x))) (λ x. 0) 16 tt v h)

-- the character of a value, as the code reckons it from three numbers that pass the test
pub character_reckoned : (first ten gap : ℕ) → T (agree (λ x. first + x + x / ten * gap) character_of 16) → (v : ℕ) → v < 16
    → first + v + v / ten * gap ≡ character_of v
character_reckoned first ten gap t v h = agreed (λ x. first + x + x / ten * gap) character_of 16 t v h

-- what is read, by its number
read_value_is : (r : Option ℕ) → eqb (read_number r) 0 ≡ true → Some (read_value r) ≡ r
unfolding read_number read_value
read_value_is (Some v) e = refl
read_value_is None e = absurd (let z : ◌≡◌ {A = ℕ} 0 1 = cc in omega arith)

read_bad : (r : Option ℕ) → eqb (read_number r) 0 ≡ false → None ≡ r
unfolding read_number
read_bad (Some v) e = absurd (let z : ◌≡◌ {A = ℕ} 0 1 = cc in omega arith)
read_bad None e = refl

-- what was found of a character, and so what it stands for
pub strange_test : (c : ℕ) → not (strange c) ≡ is_digit c
strange_test c = by (is_digit c)
  where
    by : (t : Bool) → not (not t) ≡ t
    by true = refl
    by false = refl

module _ (c : ℕ) {f : Bool} (e : f ≡ strange c) where
  tested : is_digit c ≡ not f
  tested = sym (strange_test c) ∙ ap not (sym e)

  pub digit_value : f ≡ false → {v : ℕ} → (is_digit c ≡ true → v ≡ value_of c) → Some v ≡ digit_of c
  digit_value z q =
      let d : is_digit c ≡ true = tested ∙ ap not z in
      ap (λ (x : ℕ). Some x) (q d) ∙ read_value_is (digit_of c) d

  pub digit_bad : f ≡ true → None ≡ digit_of c
  digit_bad h = read_bad (digit_of c) (tested ∙ ap not h)
