-- `hex_line::fill` meets its contract. After i turns the first i bytes stand at the front of the space, and n - i turns are left.
-- Assumes nothing.
use Rattle.laws.proofs.Laid.{front_put}
use Rattle.hex_line.proofs.BothWays.{decoded_pair}
use Rattle.hex_line.proofs.Writing.{bytes_none, bytes_all}
use Rattle.std.proofs.Common.{rules}
use Rattle.hex_line.proofs.fill.Goals as goal

pub loop-i-init : goal.loop-i-init
loop-i-init c = bytes_none _ _ c.requires.1

pub loop-i-preserved : goal.loop-i-preserved
loop-i-preserved c = front_put c.loop-i.invariant (search rules) (decoded_pair _ c.requires.0 c.loop-i.i (search rules) c.byte.ensures)

pub returns : goal.returns
returns c = bytes_all _ _ c.loop-i.invariant (search rules)
