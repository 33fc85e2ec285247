-- `hex_line::is_hex` meets its contract. After i turns the faults of the first i characters are gathered, and the others are left.
-- Assumes nothing.
use Rattle.hex_line.proofs.Judging.{gathered_none, gathered_more, gathered_all}
use Rattle.std.proofs.Common.{rules}
use Rattle.hex_line.proofs.is_hex.Goals as goal

pub loop-c-init : goal.loop-c-init
loop-c-init c = gathered_none _

pub loop-c-preserved : goal.loop-c-preserved
loop-c-preserved c = gathered_more c.loop-c.invariant (search rules) c.is_strange-faulty.ensures

pub returns : goal.returns
returns c = gathered_all c.loop-c.invariant (search rules)
