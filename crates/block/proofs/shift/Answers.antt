-- `block::shift` meets its contract: each byte is what the closure gives of its place.
-- Assumes nothing.
use Rattle.std.proofs.Common.{rules, sym, ◌∙◌}
use Rattle.laws.proofs.Bytes.{Bytes}
use Rattle.laws.proofs.Made.{made_table}
use Rattle.block.proofs.Block.{shifted_at, shifted_bytes}
use Rattle.block.proofs.shift.Goals as goal
use Rattle.block.proofs.shift.Goals.{Start}

-- the bytes of the block
each_byte : (c : Start) → Bytes c.args.x
each_byte c j = search rules

pub returns : goal.returns
returns c =
    let x = c.args.x in
    made_table 0 (shifted_at x) c.from_fn.ensures.items (λ i y q h made. search rules)
    ∙ sym (shifted_bytes x (search rules) (each_byte (goal.at.returns c).Start))
