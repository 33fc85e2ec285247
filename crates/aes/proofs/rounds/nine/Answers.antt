-- `aes::rounds::nine` meets its contract. Before round i the state is that of i - 1 rounds.
-- Assumes nothing.
use Rattle.std.proofs.Common.{rules, ◌≡◌, ◌∙◌, ap, ap₂, refl, sym, ◌+◌, ◌-◌, ◌≤◌, suc, arith}
use Rattle.aes.specs.Cipher.{keyed_round, rounds, round_key}
use Rattle.aes.proofs.rounds.nine.Goals as goal

pub loop-i-init : goal.loop-i-init
unfolding rounds
loop-i-init c = refl

pub loop-i-preserved : goal.loop-i-preserved
unfolding rounds
loop-i-preserved c =
    let i = c.loop-i.i in
    let low : 1 ≤ i = search rules in
    let more : i + 1 - 1 ≡ suc (i - 1) = omega arith in
    let at : suc (i - 1) ≡ i = omega arith in
    let key = c.round_key.ensures ∙ ap (round_key c.args.w.now) (sym at) in
    rw more (c.keyed-next.ensures ∙ ap₂ keyed_round c.loop-i.invariant key)
