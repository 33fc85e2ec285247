-- Wrong outcomes that the promises do not permit, each at one input that tells it apart.
-- Assumes nothing.
use mathlib.Core.Path.{◌≡◌, ap}
use mathlib.Core.List.{List, [], ◌∷◌}
use Prim.Native.Nat.{ℕ, ◌+◌, ◌*◌}
use native.Mathlib.Omega.{arith}
use lib.ListN.{get_or}
use Rattle.laws.specs.Agree.{table}
use Rattle.field.specs.Field.{xtime, mul_digits}
use Rattle.state.specs.State.{State, cell, grid, mix}
use Rattle.state.specs.Promise.{LoadPromise, StorePromise, ShiftRowsPromise, MixColumnsPromise, XorWordPromise, AddRoundKeyPromise}

-- the bytes 0 to 15 as a block, and as a state row by row
abbrev counted : List ℕ
counted = table (λ i. i) 16

abbrev by_rows : State
by_rows = grid (λ r c. 4 * r + c)

-- load does not read a block row by row
pub load_by_rows : LoadPromise counted by_rows → ⊥
load_by_rows p = let z : ◌≡◌ {A = ℕ} 1 4 = ap (λ (s : State). cell s 0 1) p in omega arith

-- load does not read the last row from its end
pub load_backwards : (r : State) → cell r 3 0 ≡ 15 → LoadPromise counted r → ⊥
load_backwards r h p = let z : cell r 3 0 ≡ 3 = ap (λ (s : State). cell s 3 0) p in omega arith

-- store does not write a state row by row
pub store_by_rows : StorePromise by_rows counted → ⊥
store_by_rows p = let z : ◌≡◌ {A = ℕ} 1 4 = ap (λ (l : List ℕ). get_or l 1 0) p in omega arith

-- store does not write the last byte but one twice
pub store_last_twice : (r : List ℕ) → get_or r 15 0 ≡ get_or r 14 0 → StorePromise by_rows r → ⊥
store_last_twice r h p =
    let y : get_or r 14 0 ≡ 11 = ap (λ (l : List ℕ). get_or l 14 0) p in
    let z : get_or r 15 0 ≡ 15 = ap (λ (l : List ℕ). get_or l 15 0) p in
    omega arith

-- shift_rows does not leave row 1 as it is
pub row_not_turned : (r : State) → cell r 1 0 ≡ 4 → ShiftRowsPromise by_rows r → ⊥
row_not_turned r h p = let z : cell r 1 0 ≡ 5 = ap (λ (s : State). cell s 1 0) p in omega arith

-- shift_rows does not turn row 1 to the right
pub row_turned_right : (r : State) → cell r 1 0 ≡ 7 → ShiftRowsPromise by_rows r → ⊥
row_turned_right r h p = let z : cell r 1 0 ≡ 5 = ap (λ (s : State). cell s 1 0) p in omega arith

-- mix_columns does not leave a state as it is
pub columns_not_mixed : MixColumnsPromise by_rows by_rows → ⊥
unfolding mix mul_digits xtime
columns_not_mixed p = let z : ◌≡◌ {A = ℕ} 0 8 = ap (λ (s : State). cell s 0 0) p in omega arith

-- row 1 of mix_columns does not multiply row 2 by {02} and itself by {03}
pub mix_rows_exchanged : (r : State) → cell r 1 0 ≡ 16 → MixColumnsPromise by_rows r → ⊥
unfolding mix mul_digits xtime
mix_rows_exchanged r h p = let z : cell r 1 0 ≡ 28 = ap (λ (s : State). cell s 1 0) p in omega arith

-- a key of zeros, which leaves a state as it is
abbrev no_key : State
no_key = grid (λ r c. 0)

-- add_round_key does not add the key to itself in place of the state
pub key_with_itself : (r : State) → cell r 0 1 ≡ 0 → AddRoundKeyPromise by_rows no_key r → ⊥
key_with_itself r h p = let z : cell r 0 1 ≡ 1 = ap (λ (s : State). cell s 0 1) p in omega arith

-- two words whose sum by or, and whose sums of bytes that do not stand at one place, differ from their sum
abbrev one_word : List ℕ
one_word = 3 ∷ 0 ∷ 0 ∷ 0 ∷ []

abbrev other_word : List ℕ
other_word = 1 ∷ 0 ∷ 0 ∷ 7 ∷ []

-- xor_word does not sum by or
pub word_sum_by_or : (r : List ℕ) → get_or r 0 0 ≡ 3 → XorWordPromise one_word other_word r → ⊥
word_sum_by_or r h p = let z : get_or r 0 0 ≡ 2 = ap (λ (l : List ℕ). get_or l 0 0) p in omega arith

-- the last byte of xor_word's sum does not take the other word's third
pub word_sum_wrong_byte : (r : List ℕ) → get_or r 3 0 ≡ 0 → XorWordPromise one_word other_word r → ⊥
word_sum_wrong_byte r h p = let z : get_or r 3 0 ≡ 7 = ap (λ (l : List ℕ). get_or l 3 0) p in omega arith
