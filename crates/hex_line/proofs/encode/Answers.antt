-- `hex_line::encode` meets its contract. By whether the space has room.
-- Assumes nothing.
use Rattle.std.proofs.Common.{sym, rules}
use Rattle.numbers.specs.Told.{number_of}
use Rattle.hex_line.proofs.BothWays.{encoded_length}
use Rattle.hex_line.proofs.Outcome.{number_room, number_cramped, writes_refused, writes_done}
use Rattle.hex_line.proofs.encode.Goals as goal

pub returns-then-bytes-space : goal.returns-then-bytes-space
unfolding number_of
returns-then-bytes-space c = writes_refused _ _ _ _ (number_cramped _ _ (search rules))

pub returns : goal.returns
returns c =
    writes_done _ _ _ (number_room _ _ (search rules)) (sym (encoded_length _)) c.spell.ensures
