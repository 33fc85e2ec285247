-- `aes::rounds::last` meets its contract. Its callees, put together, are the definition.
-- Assumes nothing.
use Rattle.aes.specs.Cipher.{last_round}
use Rattle.aes.proofs.rounds.last.Goals as goal

pub returns : goal.returns
unfolding last_round
returns c = rw (c.add_round_key.ensures, c.shift_rows.ensures, c.state.ensures)
