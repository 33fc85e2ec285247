-- `aes::rounds::keyed` meets its contract. Its callees, put together, are the definition.
-- Assumes nothing.
use Rattle.aes.specs.Cipher.{keyed_round}
use Rattle.aes.proofs.rounds.keyed.Goals as goal

pub returns : goal.returns
unfolding keyed_round
returns c = rw (c.add_round_key.ensures, c.unkeyed.ensures)
