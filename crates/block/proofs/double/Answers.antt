-- `block::double` meets its contract. By the two cases of the top bit, which is that of the first byte.
-- Assumes nothing.
use mathlib.Core.Path.{sym, ap₂, ◌∙◌}
use Rattle.laws.proofs.Bytes.{Bytes}
use Rattle.block.specs.Block.{◌⊕◌}
use Rattle.block.proofs.Block.{mul2_low, mul2_high, reduction_is}
use borrow.Author.Rules.{rules}
use Rattle.block.proofs.double.Goals as goal

pub returns-then-x-lt128 : goal.returns-then-x-lt128
returns-then-x-lt128 c =
    let x = c.args.x in
    c.shift.ensures ∙ sym (mul2_low x (search rules) (search rules))

pub returns : goal.returns
returns c =
    let x = c.args.x in
    let b : Bytes x = λ j. search rules in
    c.xor.ensures ∙ ap₂ ◌⊕◌ c.shift-2.ensures (c.numbered.ensures ∙ sym reduction_is)
    ∙ sym (mul2_high x (search rules) (search rules) (b 0).fits)
