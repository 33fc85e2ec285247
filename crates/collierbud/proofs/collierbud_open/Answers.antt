-- `collierbud::collierbud_open` meets its contract. What its calls ensure, one in the other.
-- Assumes nothing.
use Rattle.collierbud.proofs.Together.{open_together}
use Rattle.collierbud.proofs.collierbud_open.Goals as goal

pub returns : goal.returns
returns c =
    open_together _ _ _ _ c.key_call.ensures c.start-keys.result _ _ c.start-keys.ensures c.from-a.ensures c.opened.ensures
    c.put.ensures
