-- `collierbud::opened` meets its contract. By where the call starts from.
-- Assumes nothing.
use Rattle.std.proofs.Common.{Result, ap, sym, ◌∙◌}
use Rattle.numbers.specs.declared.Refusal.{Refusal}
use Rattle.keys.specs.declared.KeySet.{KeySet}
use Rattle.collierbud.specs.Inner.{from_start, opened_from}
use Rattle.collierbud.proofs.opened.Goals as goal

pub returns-in-Ok : goal.returns-in-Ok
unfolding from_start
returns-in-Ok c = c.judge.ensures ∙ ap (λ (r : Result KeySet Refusal). opened_from r c.args.frame.now) (sym c.in-Ok.is)

pub returns-in-Err : goal.returns-in-Err
unfolding from_start
returns-in-Err c = c.from.ensures ∙ ap (λ (r : Result KeySet Refusal). opened_from r c.args.frame.now) (sym c.in-Err.is)
