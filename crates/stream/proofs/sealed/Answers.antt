-- `stream::sealed` meets its contract. The engine's closing step, over the stream's chain.
-- Assumes nothing.
use Rattle.std.proofs.Common.{◌≡◌, length, rules}
use Rattle.judge.proofs.Held.{Fine}
use Rattle.stream.proofs.Closing.{closing_sealed}
use Rattle.stream.proofs.sealed.Goals as goal
use Rattle.stream.proofs.sealed.Goals.{Start}

-- the stream's arrays have sixteen bytes
fine : (c : Start) → Fine c.args.keys.order c.args.s
fine c = record { form = c.requires.form; size = search rules }

value_size : (c : Start) → length c.args.s.value ≡ 16
value_size c = search rules

pub returns : goal.returns
returns c =
    closing_sealed c.args.keys c.args.s c.from.ensures c.seal.ensures (fine (goal.at.returns c).Start)
    (value_size (goal.at.returns c).Start) c.requires.some
