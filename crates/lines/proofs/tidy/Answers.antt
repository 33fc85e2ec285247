-- `lines::tidy` meets its contract. So many characters are copied over zeros.
-- Assumes nothing.
use Rattle.std.proofs.Common.{refl, rules}
use Rattle.lines.proofs.Tidied.{tidied}
use Rattle.lines.proofs.tidy.Goals as goal

pub returns : goal.returns
returns c = tidied c.args.line c.args.count refl (search rules) c.held-kept.ensures c.copy_from_slice.ensures.after
