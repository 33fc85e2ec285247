-- `keys::done` meets its contract. Its callees, put together, are the definition's record.
-- Assumes nothing.
use Rattle.keys.proofs.Stored.{done_is}
use Rattle.keys.proofs.done.Goals as goal

pub returns : goal.returns
returns c =
    done_is _ _ _ _ _ _ _ _ c.requires.0 c.requires.1 c.expand_key-round.ensures
    c.made-taken.ensures c.double-full.ensures c.double-short.ensures
