-- `judge::held_for` meets its contract. They are those that do not stand in the blocks settled.
-- Assumes nothing.
use Rattle.std.proofs.Common.{arith}
use Rattle.judge.proofs.Total.{total}
use Rattle.judge.proofs.held_for.Goals as goal

pub overflow_mul-result : goal.overflow_mul-result
overflow_mul-result c = record { fits = omega (arith, c.settled_of.ensures, (total c.args.n).sum) }

pub overflow_sub-result : goal.overflow_sub-result
overflow_sub-result c = omega (arith, c.settled_of.ensures, (total c.args.n).sum)

pub returns : goal.returns
returns c = omega (arith, c.settled_of.ensures, (total c.args.n).sum)
