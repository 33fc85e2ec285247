-- `keys::bits_fault` meets its contract. By the test of its bounds.
-- Assumes nothing.
use Rattle.std.proofs.Common.{sym, ◌∙◌}
use Rattle.numbers.specs.Told.{number, number_of}
use Rattle.keys.proofs.SetNumber.{bits_none, bits_bad}
use Rattle.keys.proofs.bits_fault.Goals as goal

pub returns-then-is_within : goal.returns-then-is_within
unfolding number
returns-then-is_within c = bits_none _ (sym c.is_within.ensures ∙ c.if-is_within.true)

pub returns-else-is_within : goal.returns-else-is_within
unfolding number number_of
returns-else-is_within c = bits_bad _ (sym c.is_within.ensures ∙ c.if-is_within.false)
