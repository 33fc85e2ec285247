-- `judge::is_formed` meets its contract. One field after the other, each joined with those before it; then by whether they all are as
-- they should be, by the total.
-- Assumes nothing.
use Rattle.std.proofs.Common.{rules, ◌≡◌, eqb, leb, drop}
use Rattle.laws.specs.Agree.{both}
use Rattle.chain.specs.Count.{whole_for, four_for}
use Rattle.judge.specs.Stream.{held_for, all_zero}
use Rattle.judge.proofs.Zeros.{zeros_test}
use Rattle.judge.proofs.Formed.{formed_not, formed_long, formed_short}
use Rattle.judge.proofs.is_formed.Goals as goal
use Rattle.judge.proofs.is_formed.Goals.{then-s-le-MESSAGE_LIMIT, else-s-le-MESSAGE_LIMIT, then-s-held_for, else-s-held_for}
use Rattle.judge.proofs.is_formed.Goals.{then-zero_from, else-zero_from, then-s-wholes_for, else-s-wholes_for, Then-s-fours_for}

-- the type of a function's results
abbrev results : {A B : Type 0} → (A → B) → Type 0
results {A} {B} f = B

-- the place from which both ways of the last joined test go on
abbrev Tested : Type 0
Tested = results (λ (c : Then-s-fours_for). c.before)

first : (c : Tested)
    → c.if-s-le-MESSAGE_LIMIT.value ≡ both (leb c.args.s.total 1048576) (eqb c.args.s.count (held_for c.args.s.total))
first c =
    elim c.if-s-le-MESSAGE_LIMIT.branch [
      | then-s-le-MESSAGE_LIMIT w ↦ search rules
      | else-s-le-MESSAGE_LIMIT w ↦ search rules
    ]

second : (c : Tested)
    → c.if-s-held_for.value ≡ both c.if-s-le-MESSAGE_LIMIT.value (all_zero (drop c.args.s.count c.args.s.held))
second c =
    elim c.if-s-held_for.branch [
      | then-s-held_for w ↦ let z = zeros_test _ _ w.zero_from.ensures in search rules
      | else-s-held_for w ↦ search rules
    ]

third : (c : Tested)
    → c.if-zero_from.value ≡ both c.if-s-held_for.value (eqb c.args.s.whole (whole_for c.args.d c.args.s.total))
third c =
    elim c.if-zero_from.branch [
      | then-zero_from w ↦ search rules
      | else-zero_from w ↦ search rules
    ]

fourth : (c : Tested)
    → c.if-s-wholes_for.value ≡ both c.if-zero_from.value (eqb c.args.s.four (four_for c.args.d c.args.s.total))
fourth c =
    elim c.if-s-wholes_for.branch [
      | then-s-wholes_for w ↦ search rules
      | else-s-wholes_for w ↦ search rules
    ]

pub returns-then-s-gt-FIRST_BLOCK : goal.returns-then-s-gt-FIRST_BLOCK
returns-then-s-gt-FIRST_BLOCK c =
    let p = (goal.at.returns-then-s-gt-FIRST_BLOCK c).Then-s-fours_for.before in
    formed_long _ _ (first p) (second p) (third p) (fourth p) c.if-s-fours_for.true c.if-s-gt-FIRST_BLOCK.true

pub returns-else-s-gt-FIRST_BLOCK : goal.returns-else-s-gt-FIRST_BLOCK
returns-else-s-gt-FIRST_BLOCK c =
    let p = (goal.at.returns-else-s-gt-FIRST_BLOCK c).Then-s-fours_for.before in
    formed_short _ _ (first p) (second p) (third p) (fourth p) c.if-s-fours_for.true c.if-s-gt-FIRST_BLOCK.false
    (zeros_test _ _ c.zero_from-else-s-gt-FIRST_BLOCK.ensures)

pub returns-else-s-fours_for : goal.returns-else-s-fours_for
returns-else-s-fours_for c =
    let p = c.before in
    formed_not _ _ (first p) (second p) (third p) (fourth p) c.if-s-fours_for.false
