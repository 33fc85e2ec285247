-- `engine::closing` meets its contract. By whether the last block is full.
-- Assumes nothing.
use Rattle.engine.proofs.Room.{closing_full, closing_short}
use borrow.Author.Rules.{rules}
use Rattle.engine.proofs.closing.Goals as goal

pub returns-then-n-ge16 : goal.returns-then-n-ge16
returns-then-n-ge16 c =
    let a = c.args in
    closing_full a.full a.short a.s a.last a.n (search rules) _ _ _ c.if-n-ge16.true
    c.pad.ensures c.xor-h.ensures c.xor.ensures

pub returns : goal.returns
returns c =
    let a = c.args in
    closing_short a.full a.short a.s a.last a.n (search rules) _ _ _ (search rules)
    c.pad.ensures c.xor-h.ensures c.xor-2.ensures
