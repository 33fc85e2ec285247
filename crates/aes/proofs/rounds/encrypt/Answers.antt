-- `aes::rounds::encrypt` meets its contract. Its callees, put together, are the definition.
-- Assumes nothing.
use mathlib.Core.Path.{◌∙◌, ap, ap₂}
use Rattle.state.specs.State.{State, store, add_round_key}
use Rattle.aes.specs.Cipher.{last_round, rounds, cipher}
use Rattle.aes.proofs.rounds.encrypt.Goals as goal

pub returns : goal.returns
unfolding cipher
returns c =
    let w = c.args.w.now in
    c.store.ensures ∙ ap store
    (c.last.ensures ∙ ap₂ last_round
    (c.nine-ninth.ensures ∙ ap (λ (s : State). rounds w s 9)
    (c.add_round_key-first.ensures ∙ ap₂ add_round_key
    c.load.ensures
    c.round_key.ensures))
    c.round_key-2.ensures)
