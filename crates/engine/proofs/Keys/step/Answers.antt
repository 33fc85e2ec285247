-- `engine::Keys::step` meets its contract. By the three kinds of step.
-- Assumes nothing.
use Rattle.std.proofs.Common.{rules}
use Rattle.engine.proofs.Together.{whole_is, first_is, later_is}
use Rattle.engine.proofs.Keys.step.Goals as goal

pub returns-then-w-eq0 : goal.returns-then-w-eq0
returns-then-w-eq0 c =
    whole_is _ _ _ _ _ _ _ c.if-w-eq0.true c.xor.ensures c.encrypt_block.ensures

pub returns-then-w-eq1 : goal.returns-then-w-eq1
returns-then-w-eq1 c =
    first_is _ _ _ _ _ _ _ c.if-w-eq1.true c.xor-then-w-eq1.ensures c.four.ensures

pub returns : goal.returns
returns c =
    later_is _ _ _ _ _ _ _ _ _ (search rules) c.x_key-x.ensures c.xor-2.ensures
    c.xor-3.ensures c.four-2.ensures
