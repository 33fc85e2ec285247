-- `block::join` meets its contract: each byte is what the closure gives of its place.
-- Assumes nothing.
use Rattle.std.proofs.Common.{rules, ◌++◌, get_or, take}
use Rattle.laws.proofs.Made.{made_table}
use Rattle.block.specs.Block.{sixteen}
use Rattle.block.proofs.join.Goals as goal

pub returns : goal.returns
unfolding sixteen
returns c =
    let a = c.args in
    made_table 0 (λ j. get_or (take a.n a.x ++ a.part.now) j 0) c.from_fn.ensures.items (λ i y q h made. search rules)
