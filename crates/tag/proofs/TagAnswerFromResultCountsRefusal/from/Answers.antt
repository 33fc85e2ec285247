-- What a call that makes a tag hands back is told as `told_made` tells it.
-- Assumes nothing.
use Rattle.std.proofs.Common.{refl, ap, ◌∙◌}
use Rattle.numbers.specs.Told.{number}
use Rattle.tag.specs.Answer.{refused_tag}
use Rattle.tag.specs.Told.{told_made}
use Rattle.tag.proofs.TagAnswerFromResultCountsRefusal.from.Goals as goal

pub returns-in-Ok : goal.returns-in-Ok
unfolding told_made
returns-in-Ok c = rw c.in-Ok.is refl

pub returns-in-Err : goal.returns-in-Err
unfolding told_made refused_tag number
returns-in-Err c = rw c.in-Err.is (c.refused.ensures ∙ ap refused_tag c.told.ensures)
