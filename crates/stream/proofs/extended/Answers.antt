-- `stream::extended` meets its contract. By whether held bytes and part make more than a block.
-- Assumes nothing.
use Rattle.std.proofs.Common.{◌+◌, ◌≤◌, arith, length, rules}
use Rattle.judge.proofs.Held.{Fine, formed_holds}
use Rattle.stream.proofs.Adding.{added_room}
use Rattle.stream.proofs.extended.Goals as goal
use Rattle.stream.proofs.extended.Goals.{Start}

fine : (c : Start) → Fine c.args.keys.now.order c.args.s
fine c = record { form = c.requires.form; size = search rules }

pub overflow_sub-n : goal.overflow_sub-n
overflow_sub-n c = omega (arith, (formed_holds _ _ c.requires.form).most)

pub returns : goal.returns
returns c =
    let holds = formed_holds _ _ c.requires.form in
    let fits : c.args.s.count + length c.args.part.now ≤ 16 =
    omega (arith, holds.most, c.if-part-n.false) in
    added_room _ _ c.args.s c.args.part.now (fine (goal.at.returns c).Start) _ fits
    c.join-first.ensures
