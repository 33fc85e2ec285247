-- `keys::set_fault` meets its contract. One test after the other.
-- Assumes nothing.
use Rattle.laws.proofs.Cases.{test_fails, test_holds}
use Rattle.numbers.specs.Told.{number, number_of}
use Rattle.keys.proofs.SetNumber.{set_order, set_tag}
use Rattle.keys.proofs.set_fault.Goals as goal

pub returns-then-not-is_within : goal.returns-then-not-is_within
unfolding number number_of
returns-then-not-is_within c = set_order _ (test_fails c.is_within.ensures c.if-not-is_within.true)

pub returns : goal.returns
returns c =
    set_tag _ (test_holds c.is_within.ensures c.if-not-is_within.false) c.bits_fault.ensures
