-- `frame::open_or` meets its contract. By the verdict on the frame.
-- Assumes nothing.
use Rattle.std.proofs.Common.{length-take-le, rules}
use Rattle.frame.proofs.Opened.{judged_within, open_or_judged, open_or_refused}
use Rattle.frame.proofs.open_or.Goals as goal

pub slice_bounds-result-end : goal.slice_bounds-result-end
slice_bounds-result-end c = search (rules, length-take-le, judged_within _ _ c.judge.result c.judge.ensures _ c.in-Ok.is)

pub returns-in-Ok : goal.returns-in-Ok
returns-in-Ok c = open_or_judged _ _ c.judge.result c.judge.ensures _ _ _ _ c.in-Ok.is

pub returns-in-Err : goal.returns-in-Err
returns-in-Err c = open_or_refused _ _ c.judge.result c.judge.ensures _ _ _ _ c.in-Err.is
