-- `lines::find` meets its contract. The line ends where it does behind the characters that were passed over.
-- Assumes nothing.
use Rattle.std.proofs.Common.{◌≡◌, ◌+◌, arith, rules}
use Rattle.std.proofs.lemmas.List.{take_rest}
use Rattle.lines.specs.Gather.{line_end}
use Rattle.lines.proofs.Finding.{passed_end, end_within, ends_behind}
use Rattle.lines.proofs.find.Goals as goal
use Rattle.lines.proofs.find.Goals.{After-ahead}

pub returns-then-at-part : goal.returns-then-at-part
returns-then-at-part c = ends_behind _ _ c.if-at-part.true

ends : (c : After-ahead) → c.args.at + c.skip-passed.result + c.ahead.result ≡ line_end c.args.part.now c.args.at
ends c =
    let s = c.skip-passed.ensures in
    passed_end c.args.part.now c.args.at (take_rest c.args.part.now c.args.at) s.within s.passed c.ahead.ensures

pub overflow_add-result-2 : goal.overflow_add-result-2
overflow_add-result-2 c =
    let e = ends c in
    let h = end_within c.args.part.now c.args.at (omega arith) in
    search rules

pub returns : goal.returns
returns c = ends c
