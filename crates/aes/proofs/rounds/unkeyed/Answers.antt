-- `aes::rounds::unkeyed` meets its contract. Its callees, put together, are the definition.
-- Assumes nothing.
use Rattle.aes.specs.Cipher.{unkeyed_round}
use Rattle.aes.proofs.rounds.unkeyed.Goals as goal

pub returns : goal.returns
unfolding unkeyed_round
returns c = rw (c.mix_columns.ensures, c.shift_rows.ensures, c.state.ensures)
