-- `judge::stream_fault` meets its contract. The test is the definition's.
-- Assumes nothing.
use Rattle.std.proofs.Common.{ap, ◌∙◌, Bool}
use Rattle.laws.specs.Fault.{unless}
use Rattle.numbers.specs.Told.{number_of}
use Rattle.judge.specs.Fault.{stream_number}
use Rattle.judge.proofs.stream_fault.Goals as goal

pub returns : goal.returns
unfolding stream_number number_of
returns c = c.unless.ensures ∙ ap (λ (t : Bool). unless t 4) c.is_formed.ensures
