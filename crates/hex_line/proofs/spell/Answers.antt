-- `hex_line::spell` meets its contract. After i turns the characters of the first i bytes stand at the front of the space, and the other
-- bytes are left.
-- Assumes nothing.
use Rattle.std.proofs.Common.{rules}
use Rattle.hex_line.proofs.Writing.{spelt_none, spelt_more, spelt_all}
use Rattle.hex_line.proofs.spell.Goals as goal

pub loop-i-init : goal.loop-i-init
loop-i-init c = spelt_none _ _ c.requires

pub loop-i-preserved : goal.loop-i-preserved
loop-i-preserved c =
    spelt_more _ _ c.loop-i.invariant (search rules) c.high.ensures c.low.ensures

pub returns : goal.returns
returns c = spelt_all _ _ c.loop-i.invariant (search rules)
