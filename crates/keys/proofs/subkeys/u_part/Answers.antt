-- `keys::subkeys::u_part` meets its contract. By the cases of w and of j.
-- Assumes nothing.
use Rattle.std.proofs.Common.{rules}
use Rattle.keys.specs.Arrangement.{u_part}
use Rattle.keys.proofs.subkeys.u_part.Goals as goal

pub returns-then-contains-2 : goal.returns-then-contains-2
unfolding u_part
returns-then-contains-2 c = search rules

pub returns-else-contains : goal.returns-else-contains
unfolding u_part
returns-else-contains c = search rules
