-- An answer of the key call is told as `told_keys` tells it.
-- Assumes nothing.
use Rattle.std.proofs.Common.{refl, ap, ◌∙◌}
use Rattle.numbers.specs.Told.{number}
use Rattle.keys.specs.Answer.{refused_keys}
use Rattle.keys.specs.Told.{told_keys}
use Rattle.keys.proofs.KeyAnswerFromResultMadeRefusal.from.Goals as goal

pub returns-in-Ok : goal.returns-in-Ok
unfolding told_keys
returns-in-Ok c = rw c.in-Ok.is refl

pub returns-in-Err : goal.returns-in-Err
unfolding told_keys refused_keys number
returns-in-Err c = rw c.in-Err.is (c.refused.ensures ∙ ap refused_keys c.told.ensures)
