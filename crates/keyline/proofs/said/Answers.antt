-- `keyline::said` meets its contract.
-- Assumes nothing.
use Rattle.keyline.proofs.Answered.{said_by}
use Rattle.std.proofs.Common.{rules}
use Rattle.keyline.proofs.said.Goals as goal

pub returns : goal.returns
returns c = said_by _ (search rules) c.read-k.ensures c.read-l.ensures c.key_call.ensures
