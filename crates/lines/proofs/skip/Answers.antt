-- `lines::skip` meets its contract. Sixteen characters without a line feed are passed over at each turn.
-- Assumes nothing.
use Rattle.std.proofs.Common.{◌≡◌, ◌+◌, ◌*◌, refl, arith}
use Rattle.lines.specs.Lines.{plain}
use Rattle.lines.proofs.Finding.{passed_more}
use Rattle.lines.proofs.skip.Goals as goal

pub loop-k-init : goal.loop-k-init
unfolding plain
loop-k-init c = refl

pub loop-k-preserved : goal.loop-k-preserved
loop-k-preserved c =
    let k = c.loop-k.k in
    let n : (k + 1) * 16 ≡ k * 16 + 16 = omega arith in
    rw n
    (passed_more c.args.part.now (k * 16) (k * 16 + 16) (omega arith) c.loop-k.invariant (c.clear.ensures c.if-not-clear.false))
