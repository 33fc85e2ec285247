-- `collierbud::collierbud_tag` meets its contract. What its calls ensure, one in the other.
-- Assumes nothing.
use Rattle.std.proofs.Common.{Result, ◌∙◌, ap}
use Rattle.numbers.specs.declared.Refusal.{Refusal}
use Rattle.numbers.specs.Told.{number}
use Rattle.collierbud.proofs.Together.{tag_together}
use Rattle.collierbud.proofs.collierbud_tag.Goals as goal

pub returns : goal.returns
returns c =
    let told = c.tagged-outcome.ensures in
    tag_together _ _ _ _ c.key_call.ensures c.start-keys.result _ _ _ c.tagged-outcome.result c.start-keys.ensures told.value
    told.space_after
    (c.told.ensures ∙ ap (λ (r : Result (Unit {0}) Refusal). number r) c.and.ensures) c.unwrap_or-taken.ensures c.put.ensures
