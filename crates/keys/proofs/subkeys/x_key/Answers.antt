-- `keys::subkeys::x_key` meets its contract. By the cases of j.
-- Assumes nothing.
use Rattle.std.proofs.Common.{rules}
use Rattle.keys.specs.Arrangement.{x_key}
use Rattle.keys.proofs.subkeys.x_key.Goals as goal

pub returns-then-contains : goal.returns-then-contains
unfolding x_key
returns-then-contains c = search rules

pub returns-else-contains : goal.returns-else-contains
unfolding x_key
returns-else-contains c = search rules
