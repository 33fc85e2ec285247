-- `lines::gather` meets its contract. So many more characters are copied behind the line.
-- Assumes nothing.
use Rattle.std.proofs.Common.{rules}
use Rattle.lines.proofs.Tidied.{gathers}
use Rattle.lines.proofs.gather.Goals as goal

pub returns : goal.returns
returns c =
    gathers c.args.line c.args.count c.args.more.now (search rules) c.tidy-r.ensures c.held-n.ensures c.min.ensures
    c.copy_from_slice.ensures.after
