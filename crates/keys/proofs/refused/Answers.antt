-- `keys::refused` meets its contract. It is the definition's record, with the set of zeros that `no_set` hands back.
-- Assumes nothing.
use Rattle.std.proofs.Common.{refl}
use Rattle.keys.specs.Answer.{refused_keys}
use Rattle.keys.proofs.refused.Goals as goal

pub returns : goal.returns
unfolding refused_keys
returns c = rw c.no_set.ensures refl
