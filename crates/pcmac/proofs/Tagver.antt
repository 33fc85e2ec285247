-- TAGVER is 1 exactly where T is the tag. The rule of acceptance accepts exactly where the received bits are the tag's and then zeros; and
-- so, of whole bytes, exactly the tag's bytes.
-- Assumes nothing.
use mathlib.Core.Path.{◌≡◌, refl, ap, ap₂, sym, ◌∙◌}
use mathlib.Core.Bool.{Bool, true, false}
use mathlib.Core.Logic.{◌↔◌}
use mathlib.Core.List.{List, [], ◌∷◌, ◌++◌}
use Prim.Native.Nat.{ℕ, ◌-◌, ◌*◌, ◌≤◌}
use native.Mathlib.Omega.{arith}
use lib.ListN.{length, get_or, take, drop, replicate, take-append-drop, get_or-eq_default}
use lib.Seq.{take_at, drop_at}
use lib.Dec.{T, eqb, eqb→eq}
use borrow.Author.Tests.{eq-eqb}
use Rattle.laws.proofs.Both.{both_left, both_right}
use Rattle.laws.proofs.Bytes.{Bytes}
use Rattle.laws.proofs.Filled.{zeros_behind}
use Rattle.laws.specs.Pick.{pick}
use Rattle.laws.specs.Up.{up}
use Rattle.block.specs.Bits.{bits, bytes}
use Rattle.block.specs.Block.{Block}
use Rattle.block.proofs.Bits.{bytes_length}
use Rattle.block.proofs.Digits.{Digits, bytes_spell, bits_once}
use Rattle.block.proofs.Padding.{bits_length}
use Rattle.pcmac.specs.Taggen.{TAGGEN}
use Rattle.pcmac.specs.Tagver.{same, accepted, TAGVER}

-- lists that pass the test are equal
same_equal : (a b : List ℕ) → T (same a b) → a ≡ b
unfolding same
same_equal [] [] t = refl
same_equal [] (y ∷ b) t = absurd t
same_equal (x ∷ a) [] t = absurd t
same_equal (x ∷ a) (y ∷ b) t =
    ap₂ (λ (z : ℕ) (l : List ℕ). z ∷ l) (eqb→eq x y (both_left (eqb x y) (same a b) t))
    (same_equal a b (both_right (eqb x y) (same a b) t))

-- equal lists pass it
equal_same : (a : List ℕ) → same a a ≡ true
unfolding same
equal_same [] = refl
equal_same (x ∷ a) = rw (eq-eqb x x refl) (equal_same a)

holds : {t : Bool} → t ≡ true → T t
holds e = rw e tt

module _ (p : ℕ) (received tag : List ℕ) where
  -- what is accepted is the tag and then zeros
  pub accepted_equal : accepted p received tag ≡ true → received ≡ tag ++ replicate (length received - p) 0
  unfolding accepted
  accepted_equal e = same_equal received (tag ++ replicate (length received - p) 0) (holds e)

  -- and that is accepted
  pub equal_accepted : received ≡ tag ++ replicate (length received - p) 0 → accepted p received tag ≡ true
  unfolding accepted
  equal_accepted e = ap (same received) (sym e) ∙ equal_same received

  -- that is, of a tag of p bits: they are the first p that were received, and those behind them are zero
  pub accepted_parts : length tag ≡ p
      → (accepted p received tag ≡ true) ↔ ((take p received ≡ tag) × (drop p received ≡ replicate (length received - p) 0))
  accepted_parts n = (
    λ t.
        let e = accepted_equal t in
        let spare : List ℕ = replicate (length received - p) 0 in
        (ap (take p) e ∙ take_at tag spare p n, ap (drop p) e ∙ drop_at tag spare p n),
    λ q. equal_accepted (sym (take-append-drop p received) ∙ ap₂ (λ (x y : List ℕ). x ++ y) q.0 q.1),
  )

  -- so that no spare bit is set
  pub spare_set : accepted p received tag ≡ true → length tag ≤ p → (i : ℕ) → p ≤ i → get_or received i 0 ≡ 1 → ⊥
  spare_set t n i h one =
      let zero =
      ap (λ (x : List ℕ). get_or x i 0) (accepted_equal t) ∙ zeros_behind tag (length received - p) i
      ∙ get_or-eq_default tag 0 (omega arith) in
      omega arith

-- in bytes: where just as many were received as the tag's p bits make, it is accepted exactly where they are the tag's bytes
pub accepted_bytes : (p : ℕ) (received tag : List ℕ) → Bytes received → length received ≡ up p 8 → Digits tag → length tag ≡ p
    → (accepted p (bits received) tag ≡ true) ↔ (received ≡ bytes tag)
accepted_bytes p received tag h size digits n =
    let spelt = bytes_spell tag digits in
    let spare : 8 * length (bytes tag) - length tag ≡ length (bits received) - p =
    omega (arith, bits_length received, bytes_length tag) in
    let back : bits (bytes tag) ≡ tag ++ replicate (length (bits received) - p) 0 =
    spelt.back ∙ ap (λ (k : ℕ). tag ++ replicate k 0) spare in (
      λ t. bits_once received (bytes tag) h spelt.small (accepted_equal p (bits received) tag t ∙ sym back),
      λ e. equal_accepted p (bits received) tag (ap bits e ∙ back),
    )

pick_one : (t : Bool) → pick {A = ℕ} t 1 0 ≡ 1 → t ≡ true
pick_one true e = refl
pick_one false e = absurd (omega arith)

-- Algorithm 2.3: 1 says that T is T', and is what T' gets
module _ (d p : ℕ) (K L : Block) (M T : List ℕ) where
  pub tagver_equal : TAGVER d p K L M T ≡ 1 → T ≡ TAGGEN d p K L M
  unfolding TAGVER
  tagver_equal e = same_equal T (TAGGEN d p K L M) (holds (pick_one (same T (TAGGEN d p K L M)) e))

  pub equal_tagver : T ≡ TAGGEN d p K L M → TAGVER d p K L M T ≡ 1
  unfolding TAGVER
  equal_tagver e = ap (λ (x : List ℕ). pick (same x (TAGGEN d p K L M)) 1 0) e ∙ rw (equal_same (TAGGEN d p K L M))
