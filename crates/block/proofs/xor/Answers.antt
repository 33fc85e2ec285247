-- `block::xor` meets its contract: each byte is what the closure gives of its place.
-- Assumes nothing.
use Rattle.std.proofs.Common.{rules, get_or}
use Rattle.std.specs.Int.Bits.{bit_xor}
use Rattle.laws.proofs.Made.{made_table}
use Rattle.block.specs.Block.{◌⊕◌}
use Rattle.block.proofs.xor.Goals as goal

pub returns : goal.returns
unfolding ◌⊕◌
returns c =
    let a = c.args in
    made_table 0 (λ j. bit_xor (get_or a.x j 0) (get_or a.y j 0)) c.from_fn.ensures.items (λ i y q h made. search rules)
