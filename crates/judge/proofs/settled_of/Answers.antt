-- `judge::settled_of` meets its contract. Of no bytes and of one there is none.
-- Assumes nothing.
use Rattle.std.proofs.Common.{ap, ◌∙◌, ℕ, ◌/◌}
use Rattle.judge.proofs.Total.{settled_is}
use Rattle.judge.proofs.settled_of.Goals as goal

pub returns : goal.returns
returns c = ap (λ (k : ℕ). k / 16) c.saturating_sub.ensures ∙ settled_is _
