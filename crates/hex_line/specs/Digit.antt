-- The characters of a hexadecimal line: what value each stands for, and what character stands for a value.
-- Assumes nothing.
use Rattle.std.specs.Prelude.{Bool, Option, None, Some, ℕ, ◌+◌, ◌-◌, eqb, leb, ltb}
use Rattle.laws.specs.Agree.{both}
use Rattle.laws.specs.Pick.{pick}
use Rattle.numbers.specs.Numbers.{done, not_hex}

-- what a character stands for: 0-9 (48 to 57) for 0 to 9, and A-F (65 to 70) for 10 to 15
unfoldable pub digit_of : ℕ → Option ℕ
digit_of c =
    pick (both (leb 48 c) (leb c 57)) (Some (c - 48)) (pick (both (leb 65 c) (leb c 70)) (Some (c - 65 + 10)) None)

-- the number of each case: a value is no fault, and otherwise it is 9
unfoldable pub read_number : Option ℕ → ℕ
read_number (Some v) = done
read_number None = not_hex

-- the value of each case: where there is none, 0
unfoldable pub read_value : Option ℕ → ℕ
read_value (Some v) = v
read_value None = 0

-- a character is a digit
abbrev pub is_digit : ℕ → Bool
is_digit c = eqb (read_number (digit_of c)) done

-- the value that it stands for
abbrev pub value_of : ℕ → ℕ
value_of c = read_value (digit_of c)

-- and the character that stands for a value below 16
abbrev pub character_of : ℕ → ℕ
character_of v = pick (ltb v 10) (48 + v) (65 + (v - 10))
