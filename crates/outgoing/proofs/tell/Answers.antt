-- `outgoing::tell` meets its contract. By whether the space has room for the longest text.
-- Assumes nothing.
use Rattle.std.proofs.Common.{◌<◌, length, rules}
use Rattle.lines.proofs.Telling.{tells_nothing}
use Rattle.outgoing.proofs.Sent.{fed_within, tells_fed}
use Rattle.outgoing.proofs.tell.Goals as goal
use Rattle.outgoing.proofs.tell.Goals.{After-lay-end}

-- there is room for a line feed behind the characters
within : (c : After-lay-end) → c.lay-end.result < length c.args.space.now
within c = fed_within _ _ _ c.if-space-lt-MOST_TEXT.false c.lay-end.ensures

pub returns-then-space-lt-MOST_TEXT : goal.returns-then-space-lt-MOST_TEXT
returns-then-space-lt-MOST_TEXT c = tells_nothing _ _ _ c.if-space-lt-MOST_TEXT.true

pub bounds-space-end : goal.bounds-space-end
bounds-space-end c =
    let h = within (goal.at.bounds-space-end c).After-lay-end in
    search rules

pub returns : goal.returns
returns c = tells_fed _ _ _ c.if-space-lt-MOST_TEXT.false c.lay-end.ensures
