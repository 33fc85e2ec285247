-- `aes::expand::powers` meets its contract. Each entry is x times the one before it: one test over the ten.
-- Assumes nothing.
use mathlib.Core.Path.{refl}
use Rattle.laws.proofs.Agree.{tabled}
use Rattle.field.specs.Field.{xtime}
use Rattle.aes.specs.Schedule.{x_power}
use Rattle.aes.proofs.expand.powers.Goals as goal

pub returns : goal.returns
unfolding x_power xtime
returns c = tabled x_power _ 10 refl tt
