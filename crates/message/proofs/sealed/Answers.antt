-- `message::sealed` meets its contract. The engine's run over all blocks but the last, and its closing step.
-- Assumes nothing.
use Rattle.std.proofs.Common.{length}
use Rattle.message.proofs.Whole.{last_at, message_chained, message_last, message_sealed}
use Rattle.message.proofs.sealed.Goals as goal

pub returns : goal.returns
returns c =
    let k = c.args.keys in
    let M = c.args.message.now in
    message_sealed k M c.requires.0 c.requires.1 c.seal.ensures
    (message_chained k M (last_at (length M)) c.absorb-c.ensures)
    (message_last M (last_at (length M)) c.read-last.ensures)
