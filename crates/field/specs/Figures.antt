-- Figures, proved: those of the substitution that the outline marks P, and FIPS 197's worked products. Of each kind one table under
-- one statement about the definitions.
-- Assumes nothing.
use Rattle.std.specs.Prelude.{◌≡◌, refl, List, [], ◌∷◌, ℕ}
use Rattle.laws.specs.Each.{Each}
use Rattle.field.specs.Field.{xtime, mul_digits, mul}
use Rattle.field.specs.Sbox.{sub_byte, affine, affine_digits, affine_digit, digit, inverse, pow_digits}

-- a byte, and what the substitution puts for it
pub record Substituted : Type 0 where
  pub byte : ℕ
  pub by : ℕ

-- 00 to 63, 53 to ED
abbrev pub substitutions : List Substituted
substitutions = record { byte = 0x00; by = 0x63 } ∷ record { byte = 0x53; by = 0xed } ∷ []

-- S gives each row of the table
abbrev pub SubstitutionsHold : Type 0
SubstitutionsHold = Each (λ row. sub_byte row.byte ≡ row.by) substitutions

-- and so it does
pub substitutions_hold : SubstitutionsHold
unfolding sub_byte affine affine_digits affine_digit digit inverse pow_digits mul_digits xtime
substitutions_hold = (refl, (refl, tt))

-- two bytes and their product
pub record Multiplied : Type 0 where
  pub left : ℕ
  pub right : ℕ
  pub gives : ℕ

-- the worked examples of 4.2 and 4.2.1: {57} • {83} = {c1}; {57} • {02}, {04}, {08}, {10} and {13}
abbrev pub multiplications : List Multiplied
multiplications =
    record { left = 0x57; right = 0x83; gives = 0xc1 } ∷ record { left = 0x57; right = 0x02; gives = 0xae }
    ∷ record { left = 0x57; right = 0x04; gives = 0x47 } ∷ record { left = 0x57; right = 0x08; gives = 0x8e }
    ∷ record { left = 0x57; right = 0x10; gives = 0x07 } ∷ record { left = 0x57; right = 0x13; gives = 0xfe } ∷ []

-- the definition gives each row of the table
pub multiplications_hold : Each (λ row. mul row.left row.right ≡ row.gives) multiplications
unfolding mul_digits xtime
multiplications_hold = (refl, (refl, (refl, (refl, (refl, (refl, tt))))))
