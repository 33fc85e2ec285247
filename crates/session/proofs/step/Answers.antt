-- `session::step` meets its contract. Whole lines first, then turn by turn, until the part is at its end or there is no room for another
-- text.
-- Assumes nothing.
use Rattle.std.specs.Prelude.{◌≡◌, ◌≤◌, ◌<◌, ◌-◌, ◌⊎◌, length}
use Rattle.std.proofs.Common.{ap, sym, ◌∙◌, inl, inr, rules}
use Rattle.session.specs.declared.State.{State}
use Rattle.session.specs.Session.{width}
use Rattle.session.specs.Promise.{StepPromise}
use Rattle.session.proofs.Stepping.{begins_within, stepping_none, passes_within, stepping_ready, stepping_more, none_left}
use Rattle.session.proofs.Stepping.{step_whole, tidied_tidy, tidied_kind, tidied_step}
use Rattle.session.proofs.step.Goals as goal
use Rattle.session.proofs.step.Goals.{Start, At-loop-t}

size : (c : Start) → length c.args.s.line ≡ 511
size c = search rules

-- the texts have the width of the state that the loop begins with
wide : (c : At-loop-t) → length c.args.s.line ≡ 511 → c.width-most.result ≡ width c.pass_whole-t.result.state.kind
wide c size =
    let kept = ap (λ (x : State). x.kind) c.pass_whole-t.ensures.same in
    c.width-most.ensures ∙ ap width (sym (kept ∙ tidied_kind c.args.s size c.tidied.ensures))

-- where nothing more is taken, that is the step's outcome
ends : (c : At-loop-t) → length c.args.s.line ≡ 511
    → (length c.args.part.now ≤ c.loop-t.t.taken) ⊎ (length c.loop-t.space - c.loop-t.t.written < c.width-most.result)
    → StepPromise c.args.s c.args.part.now c.args.space.now c.loop-t.t c.loop-t.space
ends c size h =
    let v = c.loop-t.invariant in
    tidied_step c.args.s size c.tidied.ensures c.args.part.now c.args.space.now
    (step_whole c.pass_whole-t.ensures v (none_left v (wide c size) h))

pub pass_whole-t-requires : goal.pass_whole-t-requires
pass_whole-t-requires c = (tidied_tidy c.args.s (size (goal.at.pass_whole-t-requires c).Start) c.tidied.ensures, begins_within _ _ _)

pub loop-t-init : goal.loop-t-init
loop-t-init c =
    let p = c.pass_whole-t.ensures in
    stepping_none _ _ _ p.tidy (passes_within _ _ p.moves)

pub take_turn-requires : goal.take_turn-requires
take_turn-requires c =
    let at = goal.at.take_turn-requires c in
    stepping_ready c.loop-t.invariant (wide at.At-loop-t (size at.Start)) c.loop-t-test.true c.if-space-t.true

pub loop-t-preserved : goal.loop-t-preserved
loop-t-preserved c = stepping_more c.loop-t.invariant c.take_turn.ensures c.pass_whole-t-in-loop-t.ensures

pub returns-else-space-t : goal.returns-else-space-t
returns-else-space-t c = let at = goal.at.returns-else-space-t c in ends at.At-loop-t (size at.Start) (inr c.if-space-t.false)

pub returns-after-loop-t : goal.returns-after-loop-t
returns-after-loop-t c = let at = goal.at.returns-after-loop-t c in ends at.At-loop-t (size at.Start) (inl c.loop-t-test.false)
