-- `keys::subkeys::put` meets its contract. The copy lays the block over the bytes of its place.
-- Assumes nothing.
use Rattle.std.proofs.Common.{rules, arith}
use Rattle.keys.proofs.Laid.{laid_put}
use Rattle.keys.proofs.subkeys.put.Goals as goal

pub returns : goal.returns
returns c = laid_put _ _ _ (search rules) (search rules) c.requires (omega arith) c.copy_from_slice.ensures.after
