-- `tag::unchecked` meets its contract. It is the definition's record.
-- Assumes nothing.
use Rattle.std.proofs.Common.{refl}
use Rattle.numbers.specs.Told.{number}
use Rattle.tag.specs.Answer.{refused_tag}
use Rattle.tag.specs.Told.{told_checked}
use Rattle.tag.proofs.unchecked.Goals as goal

pub returns : goal.returns
unfolding number told_checked refused_tag
returns c = refl
