-- `block::read` meets its contract, where sixteen bytes stand there.
-- Assumes nothing.
use Rattle.std.proofs.Common.{◌≡◌, ◌≤◌, ap, sym, ◌∙◌, List, [], ℕ, length, take, drop, Option, Some, None, Bor, arith}
use Rattle.std.proofs.Common.{drop_of_length-le, refl, ⊎_elim}
use Rattle.std.specs.Option.{unwrap_or}
use Rattle.std.specs.Slice.{IsGetRangeResult}
use Rattle.laws.proofs.Lent.{lent_rest}
use Rattle.block.proofs.Sixteen.{sixteen_long}
use Rattle.block.proofs.read.Goals as goal

-- what `get` lends from a place on, or nothing where the slice has ended there
left : (l : List ℕ) (at : ℕ) (r : Option (Bor (List ℕ))) (none : Bor (List ℕ)) → none.now ≡ [] → IsGetRangeResult l at (length l) r
    → (unwrap_or r none).now ≡ drop at l
left l at None none e h =
    let over : length l ≤ at = ⊎_elim (λ p. omega arith) (λ p. absurd (omega arith)) h.0 in
    e ∙ sym (drop_of_length-le l over)
left l at (Some x) none e h = h.0.2 ∙ lent_rest l at

pub returns-in-Some : goal.returns-in-Some
returns-in-Some c =
    let a = c.args in
    let rest : c.unwrap_or-rest.result.now ≡ drop a.at a.bytes.now =
    ap (λ (x : Bor (List ℕ)). x.now) c.unwrap_or-rest.ensures ∙ left a.bytes.now a.at c.get.result _ refl c.get.ensures.lookup in
    let first = c.in-Some.ensures.cases in
    first.same ∙ ap (λ (l : List ℕ). take 16 l) rest ∙ sym (sixteen_long (drop a.at a.bytes.now) (rw rest at first.enough))
