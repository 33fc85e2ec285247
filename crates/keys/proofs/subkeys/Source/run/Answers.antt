-- `keys::subkeys::Source::run` meets its contract. After i turns i steps are taken; n - i turns are left.
-- Assumes nothing.
use Rattle.std.proofs.Common.{arith, rules}
use Rattle.keys.proofs.Ran.{running_none, running_room, running_more}
use Rattle.keys.proofs.subkeys.Source.run.Goals as goal

pub loop-i-init : goal.loop-i-init
loop-i-init c = running_none _ _ _ _ _ _ c.requires.0 c.requires.1 c.requires.2

pub take_one-r-requires : goal.take_one-r-requires
take_one-r-requires c =
    let v = c.loop-i.invariant in
    (omega (arith, v.places), running_room v (search rules))

pub loop-i-preserved : goal.loop-i-preserved
loop-i-preserved c = running_more c.loop-i.invariant (search rules) c.take_one-r.ensures
