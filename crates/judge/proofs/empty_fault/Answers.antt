-- `judge::empty_fault` meets its contract. By whether an empty message is allowed.
-- Assumes nothing.
use Rattle.std.proofs.Common.{rules, ◌∙◌}
use Rattle.numbers.specs.Told.{number_of}
use Rattle.judge.specs.Fault.{empty_number}
use Rattle.judge.proofs.empty_fault.Goals as goal
use Rattle.judge.proofs.empty_fault.Goals.{then-allowed, else-allowed}

pub returns : goal.returns
unfolding number_of empty_number
returns c = c.unless.ensures ∙ elim c.if-allowed.branch [ then-allowed w ↦ search rules | else-allowed w ↦ search rules ]
