-- `session::finish` meets its contract. It is a step over what the state lacks.
-- Assumes nothing.
use Rattle.std.proofs.Common.{rules}
use Rattle.session.proofs.Stepping.{finish_none, finish_feed}
use Rattle.session.proofs.finish.Goals as goal

pub returns-then-s-eq0 : goal.returns-then-s-eq0
returns-then-s-eq0 c = finish_none _ _ c.if-s-eq0.true c.step.ensures

pub returns : goal.returns
returns c = finish_feed _ _ (search rules) c.if-s-eq0.false c.step-2.ensures
