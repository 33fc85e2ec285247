-- `tag::compare` meets its contract. By the first fault of the tag length and the slice, and by what was gathered of the two blocks.
-- Assumes nothing.
use Rattle.std.proofs.Common.{rules, sym, refl, true, false, eq-eqb, ne_eqb}
use Rattle.numbers.specs.Told.{number, number_of}
use Rattle.tag.proofs.Answered.{checking_err}
use Rattle.tag.proofs.Compared.{compared}
use Rattle.tag.proofs.compare.Goals as goal
use Rattle.tag.proofs.compare.Goals.{then-differing-eq0, else-differing-eq0}

pub returns-in-Err : goal.returns-in-Err
returns-in-Err c = checking_err _ _ _ c.in-Err.ensures _ _ _ c.unchecked.ensures

pub returns : goal.returns
unfolding number number_of
returns c =
    let a = c.args in
    elim c.if-differing-eq0.branch [
      | then-differing-eq0 w ↦
          compared a.made a.bits a.received.now _ _ _ true _ (rw w.result-is refl) (eq-eqb _ _ w.if-differing-eq0.true)
          c.differences-differing.ensures c.read.ensures c.kept.ensures (sym c.in_default.ensures) (λ j. search rules) (search rules) _
          c.from.ensures
      | else-differing-eq0 w ↦
          compared a.made a.bits a.received.now _ _ _ false _ (rw w.result-is refl) (ne_eqb _ _ w.if-differing-eq0.false)
          c.differences-differing.ensures c.read.ensures c.kept.ensures (sym c.in_default.ensures) (λ j. search rules) (search rules) _
          c.from.ensures
    ]
