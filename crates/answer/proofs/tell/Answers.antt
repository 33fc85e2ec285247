-- `answer::tell` meets its contract. By whether the space has room for the text.
-- Assumes nothing.
use Rattle.lines.proofs.Telling.{tells_nothing}
use Rattle.std.proofs.Common.{rules}
use Rattle.answer.proofs.Spelt.{unencoded, feed_within, tells_encoded}
use Rattle.answer.proofs.tell.Goals as goal

pub returns-then-space-lt-ANSWER : goal.returns-then-space-lt-ANSWER
returns-then-space-lt-ANSWER c = tells_nothing _ _ _ c.if-space-lt-ANSWER.true

pub returns-in_default : goal.returns-in_default
returns-in_default c = absurd (unencoded _ _ _ c.bytes_of.ensures c.if-space-lt-ANSWER.false _ _ c.in_default.ensures)

pub bounds-space-end : goal.bounds-space-end
bounds-space-end c = feed_within _ _ _ c.bytes_of.ensures c.if-space-lt-ANSWER.false _ _ c.in-Ok.ensures

pub overflow_add-result : goal.overflow_add-result
overflow_add-result c =
    let h = feed_within c.args.a _ _ c.bytes_of.ensures c.if-space-lt-ANSWER.false _ _ c.in-Ok.ensures in
    search rules

pub returns : goal.returns
returns c = tells_encoded _ _ _ c.bytes_of.ensures c.if-space-lt-ANSWER.false _ _ c.in-Ok.ensures
