-- `session::tell` meets its contract. By the kind.
-- Assumes nothing.
use Rattle.std.proofs.Common.{◌∙◌}
use Rattle.session.proofs.Telling.{wrote_sent, wrote_verdict}
use Rattle.session.proofs.tell.Goals as goal

pub returns-then-kind-eq-SEND : goal.returns-then-kind-eq-SEND
returns-then-kind-eq-SEND c = wrote_sent _ _ c.requires _ _ c.if-kind-eq-SEND.true c.tell.ensures

pub returns : goal.returns
returns c = wrote_verdict _ _ c.requires _ _ c.if-kind-eq-SEND.false (c.into.ensures ∙ c.of_line.ensures) c.tell-2.ensures
