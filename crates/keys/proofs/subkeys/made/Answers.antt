-- `keys::subkeys::made` meets its contract. The two runs are the definition's two loops.
-- Assumes nothing.
use Rattle.std.proofs.Common.{arith, rules}
use Rattle.keys.proofs.Ran.{ran_count, taken_runs}
use Rattle.keys.proofs.subkeys.made.Goals as goal

pub run-requires : goal.run-requires
run-requires c = (search rules, search rules, omega (arith, ran_count _ _ _ _ _ _ _ c.run-parts.ensures, c.requires))

pub returns : goal.returns
returns c = taken_runs _ _ _ _ _ c.run-parts.ensures c.run.ensures
