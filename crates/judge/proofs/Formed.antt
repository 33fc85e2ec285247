-- The well-formed rule as a record of facts, and the test that decides it.
-- Assumes nothing.
use Rattle.std.proofs.Common.{◌≡◌, refl, ◌∙◌, Bool, true, false, ℕ, ◌≤◌, ◌<◌, leb, ltb, eqb, drop, leb-true, eqb-true, le-leb, lt-ltb}
use Rattle.std.proofs.Common.{eq-eqb}
use borrow.Author.Tests.{lt-leb}
use Rattle.laws.specs.Agree.{both}
use Rattle.laws.specs.Pick.{pick}
use Rattle.laws.proofs.Both.{both_holds}
use Rattle.chain.specs.Count.{whole_for, four_for}
use Rattle.pcmac.specs.Limits.{message_limit}
use Rattle.judge.specs.declared.Stream.{Stream}
use Rattle.judge.specs.Stream.{held_for, all_zero, formed}

-- all but the rule on the chain value
pub record Mostly (d : ℕ) (s : Stream) : Type 0 where
  pub size : s.total ≤ message_limit
  pub count : s.count ≡ held_for s.total
  pub rest : all_zero (drop s.count s.held) ≡ true
  pub wholes : s.whole ≡ whole_for d s.total
  pub fours : s.four ≡ four_for d s.total

-- the whole rule
pub record Formed (d : ℕ) (s : Stream) : Type 0 where
  pub most : Mostly d s
  pub fresh : s.total ≤ 16 → all_zero s.value ≡ true

fresh_is : (n : ℕ) (z : Bool) → pick (leb n 16) z true ≡ true → n ≤ 16 → z ≡ true
fresh_is n z e h = rw (le-leb n 16 h) at e

-- the test tells the facts
pub is_formed : (d : ℕ) (s : Stream) → formed d s ≡ true → Formed d s
unfolding formed
is_formed d s e =
    let f₁ = both_holds (leb s.total message_limit) _ e in
    let f₂ = both_holds (eqb s.count (held_for s.total)) _ f₁.1 in
    let f₃ = both_holds (all_zero (drop s.count s.held)) _ f₂.1 in
    let f₄ = both_holds (eqb s.whole (whole_for d s.total)) _ f₃.1 in
    let f₅ = both_holds (eqb s.four (four_for d s.total)) _ f₄.1 in
    record {
      most = record {
        size = leb-true s.total message_limit f₁.0;
        count = eqb-true s.count (held_for s.total) f₂.0;
        rest = f₃.0;
        wholes = eqb-true s.whole (whole_for d s.total) f₄.0;
        fours = eqb-true s.four (four_for d s.total) f₅.0;
      };
      fresh = fresh_is s.total (all_zero s.value) f₅.1;
    }

-- where all else holds, it is for the chain value to say
formed_most : (d : ℕ) (s : Stream) → Mostly d s → formed d s ≡ pick (leb s.total 16) (all_zero s.value) true
unfolding formed
formed_most d s f =
    rw (
      le-leb s.total message_limit f.size,
      eq-eqb s.count (held_for s.total) f.count,
      f.rest,
      eq-eqb s.whole (whole_for d s.total) f.wholes,
      eq-eqb s.four (four_for d s.total) f.fours,
    )

-- six tests, one after the other, and the same from the last one on
chained : (a b c d e f : Bool) → both (both (both (both (both a b) c) d) e) f ≡ both a (both b (both c (both d (both e f))))
chained false b c d e f = refl
chained true false c d e f = refl
chained true true false d e f = refl
chained true true true false e f = refl
chained true true true true e f = refl

-- the test as the code makes it, one field more at a time
module _ (d : ℕ) (s : Stream) {v₂ v₃ v₄ v₅ : Bool} (e₂ : v₂ ≡ both (leb s.total message_limit) (eqb s.count (held_for s.total)))
    (e₃ : v₃ ≡ both v₂ (all_zero (drop s.count s.held))) (e₄ : v₄ ≡ both v₃ (eqb s.whole (whole_for d s.total)))
    (e₅ : v₅ ≡ both v₄ (eqb s.four (four_for d s.total))) where
  formed_chain : both v₅ (pick (leb s.total 16) (all_zero s.value) true) ≡ formed d s
  unfolding formed
  formed_chain =
      rw (e₅, e₄, e₃, e₂)
      (chained (leb s.total message_limit) (eqb s.count (held_for s.total)) (all_zero (drop s.count s.held))
      (eqb s.whole (whole_for d s.total)) (eqb s.four (four_for d s.total)) (pick (leb s.total 16) (all_zero s.value) true))

  pub formed_not : v₅ ≡ false → v₅ ≡ formed d s
  formed_not e = let f = rw e at formed_chain in e ∙ f

  pub formed_long : v₅ ≡ true → 16 < s.total → ltb 16 s.total ≡ formed d s
  formed_long e h = let f = rw (e, lt-leb s.total 16 h) at formed_chain in lt-ltb 16 s.total h ∙ f

  pub formed_short : v₅ ≡ true → s.total ≤ 16 → {z : Bool} → z ≡ all_zero s.value → z ≡ formed d s
  formed_short e h q = let f = rw (e, le-leb s.total 16 h) at formed_chain in q ∙ f

-- the facts pass it
pub formed_is : (d : ℕ) (s : Stream) → Formed d s → formed d s ≡ true
formed_is d s f = formed_most d s f.most ∙ by (leb s.total 16) refl
  where
    by : (t : Bool) → leb s.total 16 ≡ t → pick t (all_zero s.value) true ≡ true
    by true e = f.fresh (leb-true s.total 16 e)
    by false e = refl
