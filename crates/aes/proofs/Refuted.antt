-- Wrong outcomes that the promises do not permit, for every input that tells them apart, or at one.
-- Assumes nothing.
use mathlib.Core.Path.{◌≡◌, sym, ap, ◌∙◌}
use mathlib.Core.List.{List, ◌∷◌}
use Prim.Native.Nat.{ℕ}
use native.Mathlib.Omega.{arith}
use lib.ListN.{get_or, replicate}
use Rattle.laws.specs.Agree.{table}
use Rattle.laws.proofs.Xor.{xor_cancel}
use Rattle.field.specs.Field.{xtime, mul_digits}
use Rattle.field.specs.Sbox.{sub_byte, affine, affine_digits, affine_digit, digit, inverse, pow_digits}
use Rattle.state.specs.State.{State, cell, mix, load, store, add_round_key}
use Rattle.aes.specs.Cipher.{round_key, unkeyed_round, keyed_round, last_round, rounds, cipher}
use Rattle.aes.specs.FourRounds.{four_rounds}
use Rattle.aes.specs.Schedule.{x_power, rcon, temp, next_word, words, schedule}
use Rattle.aes.specs.Promise.{ExpandKeyPromise, EncryptBlockPromise, FourRoundsPromise}

-- the bytes 0 to 15; sixteen zeros; and 1 before fifteen zeros
abbrev counted : List ℕ
counted = table (λ i. i) 16

abbrev none : List ℕ
none = replicate 16 0

abbrev one : List ℕ
one = 1 ∷ replicate 15 0

-- expand_key does not leave the key's last word unturned: w[4] begins with D6, and not with FF
pub word_not_turned : (r : List ℕ) → get_or r 16 0 ≡ 0xff → ExpandKeyPromise counted r → ⊥
unfolding schedule words next_word temp rcon x_power sub_byte affine affine_digits affine_digit digit inverse pow_digits mul_digits xtime
word_not_turned r h p = let z : get_or r 16 0 ≡ 0xd6 = ap (λ (l : List ℕ). get_or l 16 0) p in omega arith

-- what a last round ends with tells the first byte of its key
last_key : (s k k' : State) → store (last_round s k) ≡ store (last_round s k') → cell k 0 0 ≡ cell k' 0 0
unfolding last_round
last_key s k k' e = xor_cancel (sub_byte (cell s 0 0)) (cell k 0 0) (cell k' 0 0) (ap (λ (l : List ℕ). get_or l 0 0) e)

-- encrypt_block does not add round key 9 once more in place of round key 10, of whatever block, where the first bytes of the two differ
pub last_key_again : (w block r : List ℕ) → (get_or w 160 0 ≡ get_or w 144 0 → ⊥)
    → r ≡ store (last_round (rounds w (add_round_key (load block) (round_key w 0)) 9) (round_key w 9)) → EncryptBlockPromise w block r → ⊥
unfolding cipher
last_key_again w block r h e p =
    h (last_key (rounds w (add_round_key (load block) (round_key w 0)) 9) (round_key w 10) (round_key w 9) (sym p ∙ e))

-- four_rounds does not leave MixColumns out of the fourth round, as the last round of AES does: of zeros under a third key that is not
-- zeros, D7 and not AB
pub fourth_without_mixcolumns : (r : List ℕ) → get_or r 0 0 ≡ 0xab → FourRoundsPromise none none one none r → ⊥
unfolding four_rounds unkeyed_round keyed_round mix sub_byte affine affine_digits affine_digit digit inverse pow_digits mul_digits xtime
fourth_without_mixcolumns r h p = let z : get_or r 0 0 ≡ 0xd7 = ap (λ (l : List ℕ). get_or l 0 0) p in omega arith

-- four_rounds does not add U1 before the first round, where it would cancel a block like itself: CB and not 76
pub u1_before_the_first_round : (r : List ℕ) → get_or r 0 0 ≡ 0x76 → FourRoundsPromise one none none one r → ⊥
unfolding four_rounds unkeyed_round keyed_round mix sub_byte affine affine_digits affine_digit digit inverse pow_digits mul_digits xtime
u1_before_the_first_round r h p = let z : get_or r 0 0 ≡ 0xcb = ap (λ (l : List ℕ). get_or l 0 0) p in omega arith
