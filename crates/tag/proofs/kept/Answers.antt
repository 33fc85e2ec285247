-- `tag::kept` meets its contract. All of the block, where p is 128 or more; otherwise each byte is what the closure gives of its place.
-- Assumes nothing.
use Rattle.std.proofs.Common.{rules, ◌-◌, ◌*◌, get_or, ◌∙◌}
use Rattle.laws.proofs.Made.{made_table}
use Rattle.tag.proofs.Front.{front, cut_table, cut_all}
use Rattle.tag.proofs.kept.Goals as goal

pub returns-then-p-ge-LONGEST_TAG : goal.returns-then-p-ge-LONGEST_TAG
returns-then-p-ge-LONGEST_TAG c =
    let a = c.args in
    cut_all a.p a.x (search rules) (search rules) (λ j. search rules)

pub returns : goal.returns
returns c =
    let a = c.args in
    made_table 0 (λ j. front (a.p - 8 * j) (get_or a.x j 0)) c.from_fn.ensures.items (λ i y q h made. search rules)
    ∙ cut_table a.p a.x (search rules) (λ j. search rules)
