-- `collierbud::tagged` meets its contract. By where the call starts from.
-- Assumes nothing.
use Rattle.std.proofs.Common.{Result, ap, sym, ◌∙◌, length}
use Rattle.std.proofs.lemmas.Result.{err_from_is_err_and}
use Rattle.numbers.specs.declared.Refusal.{Refusal}
use Rattle.keys.specs.declared.KeySet.{KeySet}
use Rattle.tag.specs.Told.{told_made}
use Rattle.tag.specs.Answer.{refused_tag}
use Rattle.collierbud.specs.Inner.{from_start, tagged_from, space_from}
use Rattle.collierbud.proofs.tagged.Goals as goal

pub returns-in_err-keys-clause-value : goal.returns-in_err-keys-clause-value
unfolding from_start refused_tag told_made
returns-in_err-keys-clause-value c =
    let p = err_from_is_err_and c.from_residual.result c.from_residual.ensures.1 in
    rw (p.1, p.2)
    (ap (λ (r : Result KeySet Refusal). tagged_from r c.args.message.now (length c.args.space.now)) (sym c.in_err-keys.was))

pub returns-in_err-keys-clause-space_after : goal.returns-in_err-keys-clause-space_after
unfolding from_start
returns-in_err-keys-clause-space_after c =
    ap (λ (r : Result KeySet Refusal). space_from r c.args.message.now c.args.space.now) (sym c.in_err-keys.was)

pub returns-clause-value : goal.returns-clause-value
unfolding from_start
returns-clause-value c =
    c.tag.ensures.0
    ∙ ap (λ (r : Result KeySet Refusal). tagged_from r c.args.message.now (length c.args.space.now)) (sym c.in_ok-keys.was)

pub returns-clause-space_after : goal.returns-clause-space_after
unfolding from_start
returns-clause-space_after c =
    c.tag.ensures.1 ∙ ap (λ (r : Result KeySet Refusal). space_from r c.args.message.now c.args.space.now) (sym c.in_ok-keys.was)
