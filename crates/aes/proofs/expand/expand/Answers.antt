-- `aes::expand::expand` meets its contract. Before word i is made, the key and i - 4 words more stand at the front.
-- Assumes nothing.
use Rattle.std.proofs.Common.{rules, ◌≡◌, ◌∙◌, ap, ◌+◌, ◌-◌, ◌*◌, ◌≤◌, ◌<◌, arith}
use Rattle.aes.specs.Schedule.{schedule}
use Rattle.aes.proofs.Filled.{filled_key, filled_more, filled_all}
use Rattle.aes.proofs.expand.expand.Goals as goal

pub loop-i-init : goal.loop-i-init
loop-i-init c = filled_key c.begun-w.result (search rules)

pub loop-i-preserved : goal.loop-i-preserved
loop-i-preserved c =
    let i = c.loop-i.i in
    let low : 4 ≤ i = search rules in
    let high : i < 44 = search rules in
    let more : i + 1 - 4 ≡ i - 4 + 1 = omega arith in
    let at : i - 4 + 4 ≡ i = omega arith in
    let place : 4 * (i - 4) + 16 ≡ 4 * i = omega arith in
    rw more
    (filled_more {t = c.next_word-t.result} c.loop-i.invariant (omega arith) (rw at c.next_word-t.ensures)
    (rw place c.put_word.ensures))

pub returns : goal.returns
returns c = filled_all c.loop-i.invariant (search rules) ∙ ap schedule c.begun-w.ensures
