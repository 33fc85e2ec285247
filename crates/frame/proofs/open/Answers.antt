-- `frame::open` meets its contract. It is opening or no bytes.
-- Assumes nothing.
use Rattle.std.proofs.Common.{◌∙◌}
use Rattle.frame.proofs.Opened.{opened_or_nothing, opened_at_frame}
use Rattle.frame.proofs.open.Goals as goal

pub returns : goal.returns
returns c = (c.open_or.ensures.0 ∙ opened_or_nothing _ _, c.open_or.ensures.1 ∙ opened_at_frame _ _ _)
