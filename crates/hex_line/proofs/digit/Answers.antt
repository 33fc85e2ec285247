-- `hex_line::digit` meets its contract. By whether the character is a digit.
-- Assumes nothing.
use Rattle.hex_line.proofs.Digits.{digit_value, digit_bad}
use Rattle.hex_line.proofs.digit.Goals as goal

pub returns-then-is_strange : goal.returns-then-is_strange
returns-then-is_strange c = digit_bad c.args.c c.is_strange.ensures c.if-is_strange.true

pub returns-else-is_strange : goal.returns-else-is_strange
returns-else-is_strange c = digit_value c.args.c c.is_strange.ensures c.if-is_strange.false c.value.ensures.1
