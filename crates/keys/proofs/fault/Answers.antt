-- `keys::fault` meets its contract. By the tests, one after the other.
-- Assumes nothing.
use Rattle.std.proofs.Common.{rules}
use Rattle.numbers.specs.Told.{number, number_of}
use Rattle.keys.specs.Answer.{key_number}
use Rattle.keys.proofs.fault.Goals as goal

pub returns-then-order-gt-HIGHEST_ORDER : goal.returns-then-order-gt-HIGHEST_ORDER
unfolding number number_of key_number
returns-then-order-gt-HIGHEST_ORDER c = search rules

pub returns-then-bits-gt-LONGEST_TAG : goal.returns-then-bits-gt-LONGEST_TAG
unfolding number number_of key_number
returns-then-bits-gt-LONGEST_TAG c = search rules

pub returns-then-k-ne16 : goal.returns-then-k-ne16
unfolding number number_of key_number
returns-then-k-ne16 c = search rules

pub returns : goal.returns
unfolding number number_of key_number
returns c = search rules
