-- The key expansion from its start, by one word more, to its end.
-- Assumes nothing.
use mathlib.Core.Path.{◌≡◌, refl, sym, ap, ap₂, ◌∙◌}
use mathlib.Core.List.{List, ◌++◌}
use Prim.Native.Nat.{ℕ, ◌+◌, ◌-◌, ◌*◌, ◌≤◌, ◌<◌}
use native.Mathlib.Numerals.{add-one}
use native.Mathlib.Omega.{arith}
use lib.ListN.{length, take, drop, length-append, length-drop}
use lib.Seq.{get_or-take, take_all, take_at, length-take-le}
use Rattle.state.specs.State.{xor_word}
use Rattle.aes.specs.Schedule.{word_at, temp, next_word, words, schedule}

-- w has room for 44 words, and at its front stand the key and n words more
pub record Filled (key w : List ℕ) (n : ℕ) : Type 0 where
  pub room : length w ≡ 176
  pub front : take (4 * n + 16) w ≡ words key n

-- a word that stands within a front of w is w's
word_front : (w : List ℕ) (o i : ℕ) → 4 * i + 4 ≤ o → word_at (take o w) i ≡ word_at w i
word_front w o i h =
    rw (
      get_or-take o w (4 * i + 0) 0 (omega arith),
      get_or-take o w (4 * i + 1) 0 (omega arith),
      get_or-take o w (4 * i + 2) 0 (omega arith),
      get_or-take o w (4 * i + 3) 0 (omega arith),
    )

-- w[n+4] depends on the words before it alone
next_front : (w : List ℕ) (n : ℕ) → next_word (take (4 * n + 16) w) (n + 4) ≡ next_word w (n + 4)
unfolding next_word
next_front w n =
    ap₂ xor_word (word_front w (4 * n + 16) (n + 4 - 4) (omega arith))
    (ap (temp (n + 4)) (word_front w (4 * n + 16) (n + 4 - 1) (omega arith)))

next_length : (w : List ℕ) (i : ℕ) → length (next_word w i) ≡ 4
unfolding next_word
next_length w i = refl

pub filled_key : (w : List ℕ) → length w ≡ 176 → Filled (take 16 w) w 0
unfolding words
filled_key w h = record { room = h; front = refl }

-- v is w with w[n+4] laid down behind its first 4n + 16 bytes
module _ {key w v t : List ℕ} {n : ℕ} (f : Filled key w n) (h : n < 40) (is-next : t ≡ next_word w (n + 4))
    (is_laid : v ≡ take (4 * n + 16) w ++ t ++ drop (4 * n + 16 + 4) w) where
  front_length : length (take (4 * n + 16) w ++ t) ≡ 4 * n + 16 + 4
  front_length =
      let r : length w ≡ 176 = f.room in
      rw (length-append, length-take-le (4 * n + 16) w (omega arith), is-next, next_length)

  front_words : take (4 * n + 16) w ++ t ≡ words key n ++ next_word (words key n) (n + 4)
  front_words =
      ap₂ (λ (x y : List ℕ). x ++ y) f.front
      (is-next ∙ sym (next_front w n) ∙ ap (λ (x : List ℕ). next_word x (n + 4)) f.front)

  pub filled_more : Filled key v (n + 1)
  unfolding words
  filled_more =
      let r : length w ≡ 176 = f.room in
      let a : 4 * (n + 1) + 16 ≡ 4 * n + 16 + 4 = omega arith in
      record {
        room = ap length is_laid ∙ rw (length-append, front_length, length-drop) (omega arith);
        front =
            rw (a, add-one, is_laid)
            (take_at (take (4 * n + 16) w ++ t) (drop (4 * n + 16 + 4) w) (4 * n + 16 + 4) front_length ∙ front_words);
      }

pub filled_all : {key w : List ℕ} {n : ℕ} → Filled key w n → n ≡ 40 → w ≡ schedule key
unfolding schedule
filled_all {key} {w} {n} f e =
    let r : length w ≡ 176 = f.room in
    sym (take_all (4 * n + 16) w (omega arith)) ∙ f.front ∙ ap (words key) e
