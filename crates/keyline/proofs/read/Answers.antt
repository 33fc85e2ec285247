-- `keyline::read` meets its contract. By the first fault of the line.
-- Assumes nothing.
use Rattle.std.proofs.Common.{rules}
use Rattle.numbers.specs.Told.{number_of}
use Rattle.numbers.proofs.Number.{handed_on}
use Rattle.keyline.proofs.Answered.{number_length, read_refused, read_unsaid, read_said}
use Rattle.keyline.proofs.read.Goals as goal

pub returns-then-line-ne-LENGTH : goal.returns-then-line-ne-LENGTH
unfolding number_of
returns-then-line-ne-LENGTH c = read_refused _ _ (number_length c.args.line.now (search rules))

pub returns-in_err-decode : goal.returns-in_err-decode
returns-in_err-decode c =
    rw (handed_on c.from_residual.result c.from_residual.ensures.1)
    (read_unsaid c.args.line.now _ (search rules) (search rules) _ c.in_err-decode.ensures)

pub returns : goal.returns
returns c = read_said c.args.line.now _ (search rules) (search rules) _ c.in_ok-decode.ensures c.said.ensures
