-- A received tag against the tag that was made, as blocks with zeros behind them, by what is gathered of the two.
-- Assumes nothing.
use Rattle.std.proofs.Common.{◌≡◌, refl, ap, ap₂, sym, ◌∙◌, Bool, true, false, List, ℕ, ◌≤◌, arith, eqb, length, eq-eqb, eqb-true, Result}
use Rattle.laws.proofs.Bytes.{Bytes, bytes_take}
use Rattle.laws.specs.Pick.{pick}
use Rattle.block.specs.Bits.{bits, bytes}
use Rattle.block.specs.Block.{cut, sixteen}
use Rattle.block.proofs.Sixteen.{sixteen_length, sixteen_front, sixteen_once}
use Rattle.chain.specs.declared.Chain.{Chain}
use Rattle.numbers.specs.declared.Refusal.{Refusal}
use Rattle.numbers.specs.Told.{number}
use Rattle.tag.specs.declared.Counts.{Counts}
use Rattle.tag.specs.Told.{told_checked}
use Rattle.numbers.specs.Numbers.{done, tag_differs}
use Rattle.pcmac.specs.Tagver.{accepted}
use Rattle.pcmac.proofs.Tagver.{accepted_bytes}
use Rattle.tag.specs.Answer.{tagged_by, checked_tag}
use Rattle.tag.specs.Difference.{differences}
use Rattle.tag.specs.Fault.{tag_number}
use Rattle.tag.specs.Promise.{ComparePromise}
use Rattle.tag.specs.Tag.{tag_bytes}
use Rattle.tag.proofs.Answered.{checking_is}
use Rattle.tag.proofs.Difference.{no_difference}
use Rattle.tag.proofs.Number.{suits}
use Rattle.tag.proofs.Tagged.{cut_digits, cut_length, tag_length}

-- tests of which each tells the other
equivalent : (s t : Bool) → (s ≡ true → t ≡ true) → (t ≡ true → s ≡ true) → s ≡ t
equivalent true t f g = sym (f refl)
equivalent false true f g = g refl
equivalent false false f g = refl

-- the rule of acceptance as a comparison of blocks: of l, which has just a tag's bytes, and of the tag that is cut of x
accepted_blocks : (p : ℕ) (l x : List ℕ) → p ≤ 128 → length l ≡ tag_bytes p → Bytes l → length x ≡ 16
    → eqb (differences 16 (sixteen l) (sixteen (bytes (cut p x)))) 0 ≡ accepted p (bits l) (cut p x)
accepted_blocks p l x b n h m =
    let tag = cut p x in
    let size = tag_length p x b m in
    let exactly = no_difference (sixteen l) (sixteen (bytes tag)) (sixteen_length l) (sixteen_length (bytes tag)) in
    let spelt = accepted_bytes p l tag h n (cut_digits p x) (cut_length p x b m) in
    equivalent (eqb (differences 16 (sixteen l) (sixteen (bytes tag))) 0) (accepted p (bits l) tag)
    (λ t. spelt.1 (sixteen_once l (bytes tag) (omega arith) (omega arith) (exactly.0 (eqb-true _ 0 t))))
    (λ t. eq-eqb _ 0 (exactly.1 (ap sixteen (spelt.0 t))))

-- the answer, by what was gathered of the two blocks; that the slice holds bytes is known of the block that was read of it
pub compared : (c : Chain) (p : ℕ) (l a b : List ℕ) (d : ℕ) (t : Bool) (o : Result Unit Refusal) → number o ≡ pick t done tag_differs
    → eqb d 0 ≡ t → d ≡ differences 16 a b → a ≡ sixteen l → b ≡ sixteen (bytes (cut p c.value)) → tag_number p (length l) ≡ 0 → Bytes a
    → length c.value ≡ 16 → (counts : Counts) → counts ≡ record { whole = c.whole; four = c.four }
    → ComparePromise c p l (told_checked (record { outcome = o; counts = counts }))
unfolding checked_tag tagged_by told_checked
compared c p l a b d t o v q e f g none h m counts k =
    let suit = suits p (length l) none in
    let small : Bytes l =
    rw (f, sixteen_front l (omega (arith, suit.size, suit.bits.high))) at (bytes_take (length l) a h) in
    let s : t ≡ accepted p (bits l) (cut p c.value) =
    sym q ∙ ap (λ (z : ℕ). eqb z 0) (e ∙ ap₂ (differences 16) f g)
    ∙ accepted_blocks p l c.value suit.bits.high suit.size small m
    in
    let told : number o ≡ pick (accepted p (bits l) (cut p c.value)) done tag_differs =
    v ∙ ap (λ (z : Bool). pick z done tag_differs) s in
    let answer : record { number = number o; whole = counts.whole; four = counts.four } ≡ checked_tag p l (tagged_by p c) =
    λ i. record { number = told i; whole = (k i).whole; four = (k i).four } in
    answer ∙ sym (checking_is (tag_number p (length l)) (tagged_by p c) p l none)
