-- `session::keys_told` meets its contract. By whether the key line was refused.
-- Assumes nothing.
use Rattle.session.proofs.Telling.{keys_accepted, keys_refused}
use Rattle.session.proofs.keys_told.Goals as goal

pub returns-in-Ok : goal.returns-in-Ok
returns-in-Ok c = keys_accepted _ _ c.in-Ok.is

pub returns-in-Err : goal.returns-in-Err
returns-in-Err c = keys_refused _ _ c.in-Err.is c.no_set.ensures c.refusal_told.ensures
