-- `keys::subkeys::Source::take_one` meets its contract. Its callees, put together, are the definition's step.
-- Assumes nothing.
use Rattle.keys.proofs.Ran.{stored_is}
use Rattle.keys.proofs.subkeys.Source.take_one.Goals as goal

pub returns : goal.returns
returns c =
    stored_is _ _ _ _ _ _ _ _ _ c.numbered.ensures
    c.xor.ensures c.encrypt_block-block.ensures
    c.put.ensures
