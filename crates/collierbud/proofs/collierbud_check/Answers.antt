-- `collierbud::collierbud_check` meets its contract. What its calls ensure, one in the other.
-- Assumes nothing.
use Rattle.collierbud.proofs.Together.{check_together}
use Rattle.collierbud.proofs.collierbud_check.Goals as goal

pub returns : goal.returns
returns c =
    check_together _ _ _ _ c.key_call.ensures c.start-keys.result _ _ _ c.checked-a.result c.start-keys.ensures c.checked-a.ensures
    c.told.ensures c.put.ensures
