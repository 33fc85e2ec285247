-- `program::finish` meets its contract. By whether there is room for a text; what was written lies within the space.
-- Assumes nothing.
use Rattle.std.proofs.Common.{sym, length-take-le}
use Rattle.lines.specs.Reader.{closing}
use Rattle.session.specs.Session.{reader_of}
use Rattle.session.proofs.Outcome.{written_within}
use Rattle.program.proofs.finish.Goals as goal
use Rattle.program.proofs.finish.Goals.{then-space-width, else-space-width}

pub slice_bounds-write_all-end : goal.slice_bounds-write_all-end
slice_bounds-write_all-end c =
    let a = c.args in
    written_within a.s (closing (reader_of a.s)) a.space.now c.finish-stepped.ensures

pub slice_bounds-write_all-end-2 : goal.slice_bounds-write_all-end-2
slice_bounds-write_all-end-2 c =
    let a = c.args in
    sym (length-take-le _ _ (written_within a.s (closing (reader_of a.s)) a.space.now c.finish-stepped.ensures))
