-- `aes::expand::begun` meets its contract: what was copied stands at the front.
-- Assumes nothing.
use Rattle.std.proofs.Common.{rules, take_at}
use Rattle.aes.proofs.expand.begun.Goals as goal

pub returns : goal.returns
returns c = rw c.copy_from_slice.ensures.after (take_at c.args.key _ 16 (search rules))
