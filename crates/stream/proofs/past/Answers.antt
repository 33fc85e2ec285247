-- `stream::past` meets its contract. The held block filled up, the blocks behind it but the last, and the last, as the law has them.
-- Assumes nothing.
use Rattle.std.proofs.Common.{refl, ◌-◌, ◌/◌, ◌<◌, arith, length, rules}
use Rattle.judge.proofs.Held.{Fine, formed_holds}
use Rattle.stream.proofs.Adding.{added_over, chain_few}
use Rattle.stream.proofs.past.Goals as goal
use Rattle.stream.proofs.past.Goals.{Start}

fine : (c : Start) → Fine c.args.keys.now.order c.args.s
fine c = record { form = c.requires.extends.form; size = search rules }

-- the held bytes are at most a block, and the part goes on where it is full
full : (c : Start) → 16 - c.args.s.count < length c.args.part.now
full c = omega (arith, (formed_holds _ _ c.requires.extends.form).most, c.requires.more)

pub overflow_sub-room : goal.overflow_sub-room
overflow_sub-room c = omega (arith, (formed_holds _ _ c.requires.extends.form).most)

pub overflow_sub-end-2 : goal.overflow_sub-end-2
overflow_sub-end-2 c = omega (arith, full (goal.at.overflow_sub-end-2 c).Start)

pub overflow_sub-done : goal.overflow_sub-done
overflow_sub-done c = omega (arith, (formed_holds _ _ c.requires.extends.form).sum)

pub taken-c-requires : goal.taken-c-requires
taken-c-requires c =
    chain_few _ _ c.requires.extends.form c.from.ensures

pub returns : goal.returns
returns c =
    let s = c.args.s in
    let p = c.args.part.now in
    let holds = formed_holds _ _ c.requires.extends.form in
    let more = full (goal.at.returns c).Start in
    added_over _ _ s p (fine (goal.at.returns c).Start) (16 - s.count) ((length p - (16 - s.count) - 1) / 16)
    ((s.total - s.count) / 16) (omega (arith, holds.most)) (omega arith) (omega arith) (omega (arith, holds.sum))
    c.requires.filled refl c.read.ensures c.taken-c.ensures c.from.ensures
