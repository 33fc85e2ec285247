-- `collierbud::start` meets its contract. One test after the other.
-- Assumes nothing.
use Rattle.std.proofs.lemmas.Result.{err_from_is_err_and}
use Rattle.collierbud.proofs.Answered.{starts_refused, starts_cramped, starts_done}
use Rattle.collierbud.proofs.start.Goals as goal

pub returns-in_err-made : goal.returns-in_err-made
returns-in_err-made c =
    let p = err_from_is_err_and c.from_residual.result c.from_residual.ensures.1 in
    rw (p.1, p.2) (starts_refused _ _ _ _ c.in_err-made.was)

pub returns-then-places-n : goal.returns-then-places-n
returns-then-places-n c = starts_done _ _ _ _ c.in_ok-made.was c.if-places-n.true

pub returns-else-places-n : goal.returns-else-places-n
returns-else-places-n c = starts_cramped _ _ _ _ c.in_ok-made.was c.if-places-n.false
