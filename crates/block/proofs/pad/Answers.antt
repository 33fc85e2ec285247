-- `block::pad` meets its contract. By whether the block is full.
-- Assumes nothing.
use Rattle.std.proofs.Common.{ap, ◌∙◌, List, ℕ, set, rules}
use Rattle.block.proofs.Padding.{pad_full, pad_short}
use Rattle.block.proofs.pad.Goals as goal

pub returns-then-n-ge16 : goal.returns-then-n-ge16
returns-then-n-ge16 c = pad_full c.args.x c.args.n (search rules) (λ j. search rules) (search rules)

pub returns : goal.returns
returns c =
    let a = c.args in
    ap (λ (y : List ℕ). set y a.n 0x80) c.read-r.ensures
    ∙ pad_short a.x a.n (search rules) (λ j. search rules) (search rules)
