-- `program::run` meets its contract. Turn by turn; one read fewer is left each time.
-- Assumes nothing.
use Rattle.std.specs.Prelude.{◌≤◌, length}
use Rattle.std.proofs.Common.{sym, ◌∙◌, arith, rules}
use denote.Enum.Bare.{differs_true, differs_false}
use Rattle.program.specs.contracts.Reason.{the_type}
use Rattle.session.specs.Session.{width}
use Rattle.session.proofs.Telling.{width_most}
use Rattle.program.proofs.Running.{runs_more, runs_stop}
use Rattle.program.proofs.run.Goals as goal
use Rattle.program.proofs.run.Goals.{At-loop-left}

-- the space has room for a last text
room : (c : At-loop-left) → width c.loop-left.s.kind ≤ length c.loop-left.space
room c = omega (arith, c.loop-left.invariant.0, width_most c.loop-left.s.kind)

pub returns-then-ne : goal.returns-then-ne
returns-then-ne c =
    let l = c.loop-left in
    let k = room (goal.at.returns-then-ne c).At-loop-left in
    let ends = differs_true the_type _ _ (sym c.ne.ensures ∙ c.if-ne.true) in
    (c.begin-s.result, c.begin-s.ensures, l.invariant.1 _ (runs_stop _ _ _ _ _ k c.hear-heard.ensures l.left c.loop-left-test.true ends))

pub loop-left-preserved : goal.loop-left-preserved
loop-left-preserved c =
    let l = c.loop-left in
    let k = room (goal.at.loop-left-preserved c).At-loop-left in
    let on = differs_false the_type _ _ _ (sym c.ne.ensures ∙ c.if-ne.false) in
    (search rules, λ r q. l.invariant.1 r (runs_more _ _ _ _ _ k c.hear-heard.ensures l.left r c.loop-left-test.true on q))
