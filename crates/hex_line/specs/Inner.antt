-- What an inner function finds of a character. No promise speaks of it, and no reader need believe it.
-- Assumes nothing.
use Rattle.std.specs.Prelude.{Bool, not, ℕ}
use Rattle.hex_line.specs.Digit.{is_digit}

-- it is no digit
abbrev pub strange : ℕ → Bool
strange c = not (is_digit c)
