-- `engine::Keys::take_step` meets its contract. By the two kinds of count.
-- Assumes nothing.
use Rattle.chain.proofs.Walk.{stepped_first, stepped_later}
use Rattle.engine.proofs.Keys.take_step.Goals as goal

pub returns-then-w-eq0 : goal.returns-then-w-eq0
returns-then-w-eq0 c = stepped_first _ _ _ _ _ c.if-w-eq0.true c.step-value.ensures

pub returns-else-w-eq0 : goal.returns-else-w-eq0
returns-else-w-eq0 c = stepped_later _ _ _ _ _ c.if-w-eq0.false c.step-value.ensures
