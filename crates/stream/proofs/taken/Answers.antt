-- `stream::taken` meets its contract. Two runs of blocks, the first of one block, whose counts have room for both.
-- Assumes nothing.
use Rattle.stream.proofs.Adding.{then_taken}
use Rattle.std.proofs.Common.{rules}
use Rattle.stream.proofs.taken.Goals as goal

pub returns : goal.returns
returns c =
    then_taken _ _ _ _ _ _ _ (search rules) c.requires c.absorb-next.ensures c.absorb.ensures
