-- `judge::length_fault` meets its contract. A sum that does not fit is past the limit as well.
-- Assumes nothing.
use Rattle.std.proofs.Common.{◌∙◌}
use Rattle.numbers.specs.Told.{number_of}
use Rattle.judge.proofs.Limit.{limit_sum}
use Rattle.judge.proofs.length_fault.Goals as goal

pub returns : goal.returns
unfolding number_of
returns c = c.unless.ensures ∙ limit_sum _ _ _ c.saturating_add.ensures
