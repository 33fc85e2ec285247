-- `tag::refused` meets its contract.
-- Assumes nothing.
use Rattle.std.proofs.Common.{refl}
use Rattle.tag.specs.Answer.{refused_tag}
use Rattle.tag.proofs.refused.Goals as goal

pub returns : goal.returns
unfolding refused_tag
returns c = refl
