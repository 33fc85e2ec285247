-- `session::take_turn` meets its contract. By whether the line ends in the part.
-- Assumes nothing.
use Rattle.std.proofs.Common.{arith, rules}
use Rattle.lines.proofs.Moving.{line_within}
use Rattle.session.proofs.Turning.{turned_part, turned_line}
use Rattle.session.proofs.take_turn.Goals as goal

pub slice_bounds-gather-end : goal.slice_bounds-gather-end
slice_bounds-gather-end c = (line_within _ _ c.find-end.ensures (omega (arith, c.requires.more))).1

pub returns-then-end-part : goal.returns-then-end-part
returns-then-end-part c = turned_part _ _ _ c.requires c.find-end.ensures c.gather-g.ensures (search rules)

pub returns : goal.returns
returns c =
    turned_line _ _ _ c.requires c.find-end.ensures c.gather-g.ensures c.if-end-part.false c.line_told-told.ensures c.fresh.ensures
