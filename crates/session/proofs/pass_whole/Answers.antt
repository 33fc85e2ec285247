-- `session::pass_whole` meets its contract. Behind the key line, where no line is begun, by the lines that lie whole in the part.
-- Assumes nothing.
use Rattle.std.proofs.Common.{arith}
use Rattle.session.proofs.Turning.{passed_none, passed_lines, passes_none, passes_line}
use Rattle.session.proofs.pass_whole.Goals as goal

pub returns-then-s-ne-HAS_KEYS : goal.returns-then-s-ne-HAS_KEYS
returns-then-s-ne-HAS_KEYS c = passed_none _ _ _ c.requires.0 c.requires.1

pub loop-at-init : goal.loop-at-init
loop-at-init c = passes_none _ _ _ c.requires.0 c.requires.1

pub loop-at-preserved : goal.loop-at-preserved
loop-at-preserved c =
    let m = c.loop-at.invariant in
    passes_line _ _ _ m (omega (arith, m.room, c.if-space-out.true, c.width-most.ensures)) c.find-stop.ensures c.if-stop-part.false
    c.tell-out.ensures

pub returns-else-space-out : goal.returns-else-space-out
returns-else-space-out c = passed_lines _ _ _ c.requires.0 c.if-s-ne-HAS_KEYS.false c.if-s-ne0.false c.loop-at.invariant

pub returns-after-loop-at : goal.returns-after-loop-at
returns-after-loop-at c = passed_lines _ _ _ c.requires.0 c.if-s-ne-HAS_KEYS.false c.if-s-ne0.false c.loop-at.invariant

pub returns-then-stop-part : goal.returns-then-stop-part
returns-then-stop-part c = passed_lines _ _ _ c.requires.0 c.if-s-ne-HAS_KEYS.false c.if-s-ne0.false c.loop-at.invariant
