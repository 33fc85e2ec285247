-- `session::refusal_told` meets its contract. By the kind.
-- Assumes nothing.
use Rattle.std.proofs.Common.{◌∙◌}
use Rattle.session.proofs.Telling.{wrote_silent, wrote_refusal}
use Rattle.session.proofs.refusal_told.Goals as goal

pub returns-then-kind-eq-SEND : goal.returns-then-kind-eq-SEND
returns-then-kind-eq-SEND c = wrote_silent _ _ _ c.if-kind-eq-SEND.true

pub returns : goal.returns
returns c = wrote_refusal _ _ c.requires _ c.if-kind-eq-SEND.false (c.into.ensures ∙ c.from.ensures) c.tell.ensures
