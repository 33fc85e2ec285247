-- `hex_line::value` meets its contract. By one test over all 256 characters.
-- Assumes nothing.
use Rattle.hex_line.specs.Digit.{digit_of, read_number, read_value}
use Rattle.hex_line.proofs.Digits.{value_reckoned}
use Rattle.std.proofs.Common.{rules}
use Rattle.hex_line.proofs.value.Goals as goal

pub returns : goal.returns
unfolding digit_of read_number read_value
returns c = (search rules, λ d. value_reckoned _ _ _ _ tt c.args.c d)
