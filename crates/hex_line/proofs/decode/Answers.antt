-- `hex_line::decode` meets its contract. By the first fault of the space and the line.
-- Assumes nothing.
use Rattle.std.proofs.Common.{sym, rules}
use Rattle.laws.proofs.Cases.{test_fails, test_holds}
use Rattle.laws.proofs.Fault.{unless_fails, unless_holds}
use Rattle.numbers.specs.Told.{number_of}
use Rattle.hex_line.proofs.BothWays.{decoded_length}
use Rattle.hex_line.proofs.Outcome.{number_size, number_length, number_rest, writes_refused, writes_done}
use Rattle.hex_line.proofs.decode.Goals as goal

pub returns-then-space-lt-SPACE : goal.returns-then-space-lt-SPACE
unfolding number_of
returns-then-space-lt-SPACE c = writes_refused _ _ _ _ (number_size _ _ (search rules))

pub returns-then-line-gt-LONGEST : goal.returns-then-line-gt-LONGEST
unfolding number_of
returns-then-line-gt-LONGEST c = writes_refused _ _ _ _ (number_length _ _ (search rules) (search rules))

pub returns-then-not-is_hex : goal.returns-then-not-is_hex
unfolding number_of
returns-then-not-is_hex c =
    let fails = test_fails c.is_hex.ensures c.if-not-is_hex.true in
    writes_refused _ _ _ _ (number_rest _ _ (search rules) (search rules) (unless_fails 9 fails))

pub returns : goal.returns
returns c =
    let holds = test_holds c.is_hex.ensures c.if-not-is_hex.false in
    writes_done _ _ _ (number_rest _ _ (search rules) (search rules) (unless_holds 9 holds)) (sym (decoded_length _))
    c.fill.ensures
