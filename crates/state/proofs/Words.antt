-- Words of bytes: one law of a byte, carried to the four bytes of a word.
-- Assumes nothing.
use mathlib.Core.Path.{◌≡◌}
use mathlib.Core.List.{List, [], ◌∷◌}
use Prim.Native.Nat.{ℕ, ◌*◌, ◌/◌, ◌%◌, ◌<◌}
use lib.ListN.{get_or}
use Rattle.laws.proofs.Agree.{agreed}
use Rattle.laws.proofs.Bytes.{Bytes}
use Rattle.field.specs.Field.{◌⊕◌, xtime, mul_digits, mul}
use Rattle.field.proofs.Linear.{mix_once}
use Rattle.state.specs.State.{word, xor_word, mix}

-- two functions that agree on bytes make the same word of a word
pub word_agree : (f g : ℕ → ℕ) (p : List ℕ) → Bytes p → ((x : ℕ) → x < 256 → f x ≡ g x)
    → word (λ j. f (get_or p j 0)) ≡ word (λ j. g (get_or p j 0))
word_agree f g p b e =
    λ i. e (get_or p 0 0) (b 0).fits i ∷ e (get_or p 1 0) (b 1).fits i ∷ e (get_or p 2 0) (b 2).fits i
    ∷ e (get_or p 3 0) (b 3).fits i ∷ []

-- {03} where the top digit is 1
unfoldable pub three : ℕ → ℕ
three x = (x / 128) ⊕ (x / 128 * 2 % 256)

-- moved up by one digit, and {1b} added where the top digit was 1: {02} times the byte
unfoldable pub twice : ℕ → ℕ
twice x = (x * 2 % 256) ⊕ (three x ⊕ (three x * 8 % 256))

pub twice_is : (x : ℕ) → x < 256 → twice x ≡ mul 2 x
unfolding twice three mul_digits xtime
twice_is x h = agreed twice (mul 2) 256 tt x h

-- a row of MixColumns with one doubling in place of two
pub mix_rows : (p q t v : List ℕ) → Bytes p → Bytes q
    → xor_word (xor_word (word (λ j. mul 2 (get_or (xor_word p q) j 0))) q) (xor_word t v)
    ≡ word (λ j. mix (get_or p j 0) (get_or q j 0) (get_or t j 0) (get_or v j 0))
unfolding mix
mix_rows p q t v bp bq =
    λ i. at 0 i ∷ at 1 i ∷ at 2 i ∷ at 3 i ∷ []
  where
    at : (j : ℕ)
        → mul 2 (get_or p j 0 ⊕ get_or q j 0) ⊕ get_or q j 0 ⊕ (get_or t j 0 ⊕ get_or v j 0)
        ≡ mul 2 (get_or p j 0) ⊕ mul 3 (get_or q j 0) ⊕ get_or t j 0 ⊕ get_or v j 0
    at j = mix_once (get_or p j 0) (get_or q j 0) (get_or t j 0) (get_or v j 0) (bp j).fits (bq j).fits
