-- `lines::ahead` meets its contract.
-- Assumes nothing.
use Rattle.std.proofs.Common.{◌≡◌, ap, ◌∙◌, ℕ, Option, length, tests, rules, eqb}
use Rattle.std.proofs.lemmas.Iterator.{YieldsList-from_slice}
use Rattle.std.proofs.lemmas.Iterator.Search.{position_from_yields_List}
use Rattle.std.specs.List.{position}
use Rattle.std.specs.Option.{unwrap_or}
use Rattle.lines.specs.Lines.{line_feed}
use Rattle.lines.proofs.Finding.{plain_ahead}
use Rattle.lines.proofs.ahead.Goals as goal

pub returns : goal.returns
returns c =
    let part = c.args.part.now in
    let found : c.position.result ≡ position (λ x. eqb x line_feed) part =
    position_from_yields_List (λ x. eqb x line_feed) _ _ c.position.result c.position.ensures.ran
    (YieldsList-from_slice part c.iter.ensures.rest) (λ x b q k. search (rules, tests)) in
    c.unwrap_or.ensures ∙ ap (λ (r : Option ℕ). unwrap_or r (length part)) found ∙ plain_ahead part
