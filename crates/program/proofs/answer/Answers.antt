-- `program::answer` meets its contract. A step at a time; less of the part is left after each.
-- Assumes nothing.
use Rattle.std.specs.Prelude.{◌≡◌, ◌≤◌, length}
use Rattle.std.proofs.Common.{sym, arith, rules, length-take-le}
use Rattle.session.specs.Session.{width}
use Rattle.session.proofs.Telling.{width_most}
use Rattle.program.proofs.Answering.{answering_none, answering_more, answering_all}
use Rattle.program.proofs.Answering.{step_most, step_within, step_less}
use Rattle.program.proofs.answer.Goals as goal
use Rattle.program.proofs.answer.Goals.{After-step-stepped}

room : (c : After-step-stepped) → width c.args.s.kind ≤ length c.loop-rest.space
room c = omega (arith, c.loop-rest-test.array_long, width_most c.args.s.kind)

more : (c : After-step-stepped) → length c.loop-rest.rest.now ≡ 0 → ⊥
more c z = search rules

within : (c : After-step-stepped) → c.step-stepped.result.written ≤ length c.step-stepped.new.space
within c = step_within c.loop-rest.invariant c.loop-rest.space (room c) (more c) c.step-stepped.ensures

pub loop-rest-init : goal.loop-rest-init
loop-rest-init c = answering_none _ _ (search rules)

pub slice_bounds-space-end : goal.slice_bounds-space-end
slice_bounds-space-end c = within (goal.at.slice_bounds-space-end c).After-step-stepped

pub slice_bounds-write_all-end : goal.slice_bounds-write_all-end
slice_bounds-write_all-end c = sym (length-take-le _ _ (within (goal.at.slice_bounds-write_all-end c).After-step-stepped))

pub slice_bounds-rest-count : goal.slice_bounds-rest-count
slice_bounds-rest-count c =
    let s = (goal.at.slice_bounds-rest-count c).After-step-stepped in
    step_most c.loop-rest.invariant c.loop-rest.space (room s) (more s) c.step-stepped.ensures

pub slice_bounds-rest-start : goal.slice_bounds-rest-start
slice_bounds-rest-start c =
    let s = (goal.at.slice_bounds-rest-start c).After-step-stepped in
    step_most c.loop-rest.invariant c.loop-rest.space (room s) (more s) c.step-stepped.ensures

pub loop-rest-smaller : goal.loop-rest-smaller
loop-rest-smaller c =
    let s = (goal.at.loop-rest-smaller c).After-step-stepped in
    step_less c.loop-rest.invariant c.loop-rest.space (room s) (more s) c.step-stepped.ensures

pub loop-rest-preserved : goal.loop-rest-preserved
loop-rest-preserved c =
    let s = (goal.at.loop-rest-preserved c).After-step-stepped in
    answering_more c.loop-rest.invariant c.loop-rest.space (room s) (more s) c.step-stepped.ensures

pub returns : goal.returns
returns c = answering_all c.loop-rest.invariant (search rules) c.requires c.told.ensures
