-- Binary digits made bytes, and read again: the digits, and then the zeros that fill up the last byte.
-- Assumes nothing.
use mathlib.Core.Path.{◌≡◌, refl, ap, ap₂, sym, ◌∙◌}
use mathlib.Core.List.{List, [], ◌∷◌, ◌++◌}
use Prim.Native.Nat.{ℕ, zero, suc, ◌+◌, ◌-◌, ◌*◌, ◌<◌}
use native.Mathlib.Omega.{arith}
use lib.ListN.{length, get_or, take, drop, replicate}
use lib.Seq.{get_or-drop}
use Rattle.laws.proofs.Bytes.{Bytes, take_below}
use Rattle.laws.proofs.Filled.{zeros_behind}
use Rattle.block.specs.Bits.{binary, bits, value, bytes}
use Rattle.block.proofs.Bits.{bytes_of_bits}

-- each entry is 0 or 1
pub record Digits (x : List ℕ) : Type 0 where
  pub each : (j : ℕ) → get_or x j 0 < 2

digits_none : Digits []
digits_none = record { each = λ j. omega arith }

digits_more : {b : ℕ} {x : List ℕ} → b < 2 → Digits x → Digits (b ∷ x)
digits_more {b} {x} h k = record { each = at }
  where
    at : (j : ℕ) → get_or (b ∷ x) j 0 < 2
    at zero = h
    at (suc j) = k.each j

-- so are those of bits, and of a front of them
pub bits_digits : (m : List ℕ) → Digits (bits m)
unfolding bits binary
bits_digits [] = digits_none
bits_digits (b ∷ m) =
    digits_more (omega arith)
    (digits_more (omega arith)
    (digits_more (omega arith)
    (digits_more (omega arith)
    (digits_more (omega arith)
    (digits_more (omega arith) (digits_more (omega arith) (digits_more (omega arith) (bits_digits m))))))))

drop_digits : (n : ℕ) (x : List ℕ) → Digits x → Digits (drop n x)
drop_digits n x h = record { each = λ j. rw (get_or-drop n x j 0) (h.each (n + j)) }

pub take_digits : (n : ℕ) (x : List ℕ) → Digits x → Digits (take n x)
take_digits n x h = record { each = take_below n 2 x (omega arith) h.each }

-- and with zeros behind them
filled_up : (x : List ℕ) (n : ℕ) → Digits x → Digits (x ++ replicate n 0)
filled_up x n h = record { each = λ j. rw (zeros_behind x n j) (h.each j) }

-- numbers that are bytes, and have those bits
pub record Spells (x m : List ℕ) : Type 0 where
  pub small : Bytes m
  pub back : bits m ≡ x

bytes_more : (b : ℕ) (m : List ℕ) → b < 256 → Bytes m → Bytes (b ∷ m)
bytes_more b m h k zero = record { fits = h }
bytes_more b m h k (suc j) = k j

-- a first digit and then others
first : {x y : ℕ} {l m : List ℕ} → x ≡ y → l ≡ m → x ∷ l ≡ y ∷ m
first e q = ap₂ (λ (x : ℕ) (l : List ℕ). x ∷ l) e q

-- no digits, and eight digits in front of others
spells_none : Spells [] []
unfolding bits
spells_none = record { small = λ j. record { fits = omega arith }; back = refl }

spells_eight : (a b c d e f g h : ℕ) {x m : List ℕ} → Digits (a ∷ b ∷ c ∷ d ∷ e ∷ f ∷ g ∷ h ∷ []) → Spells x m
    → Spells (a ∷ b ∷ c ∷ d ∷ e ∷ f ∷ g ∷ h ∷ x) (value 0 (a ∷ b ∷ c ∷ d ∷ e ∷ f ∷ g ∷ h ∷ []) ∷ m)
unfolding bits binary value
spells_eight a b c d e f g h {x} {m} q s =
    by (q.each 0) (q.each 1) (q.each 2) (q.each 3) (q.each 4) (q.each 5) (q.each 6) (q.each 7)
  where
    by : a < 2 → b < 2 → c < 2 → d < 2 → e < 2 → f < 2 → g < 2 → h < 2
        → Spells (a ∷ b ∷ c ∷ d ∷ e ∷ f ∷ g ∷ h ∷ x) (value 0 (a ∷ b ∷ c ∷ d ∷ e ∷ f ∷ g ∷ h ∷ []) ∷ m)
    by a' b' c' d' e' f' g' h' = record {
      small = bytes_more (value 0 (a ∷ b ∷ c ∷ d ∷ e ∷ f ∷ g ∷ h ∷ [])) m (omega arith) s.small;
      back =
          first (omega arith)
          (first (omega arith)
          (first (omega arith)
          (first (omega arith)
          (first (omega arith) (first (omega arith) (first (omega arith) (first (omega arith) s.back)))))));
    }

-- the bytes of digits are bytes, and have those digits for their bits, and zeros behind them
pub bytes_spell : (x : List ℕ) → Digits x → Spells (x ++ replicate (8 * length (bytes x) - length x) 0) (bytes x)
unfolding bytes value
bytes_spell [] q = spells_none
bytes_spell (a ∷ []) q = spells_eight a 0 0 0 0 0 0 0 (filled_up (a ∷ []) 7 q) spells_none
bytes_spell (a ∷ b ∷ []) q = spells_eight a b 0 0 0 0 0 0 (filled_up (a ∷ b ∷ []) 6 q) spells_none
bytes_spell (a ∷ b ∷ c ∷ []) q = spells_eight a b c 0 0 0 0 0 (filled_up (a ∷ b ∷ c ∷ []) 5 q) spells_none
bytes_spell (a ∷ b ∷ c ∷ d ∷ []) q = spells_eight a b c d 0 0 0 0 (filled_up (a ∷ b ∷ c ∷ d ∷ []) 4 q) spells_none
bytes_spell (a ∷ b ∷ c ∷ d ∷ e ∷ []) q = spells_eight a b c d e 0 0 0 (filled_up (a ∷ b ∷ c ∷ d ∷ e ∷ []) 3 q) spells_none
bytes_spell (a ∷ b ∷ c ∷ d ∷ e ∷ f ∷ []) q =
    spells_eight a b c d e f 0 0 (filled_up (a ∷ b ∷ c ∷ d ∷ e ∷ f ∷ []) 2 q) spells_none
bytes_spell (a ∷ b ∷ c ∷ d ∷ e ∷ f ∷ g ∷ []) q =
    spells_eight a b c d e f g 0 (filled_up (a ∷ b ∷ c ∷ d ∷ e ∷ f ∷ g ∷ []) 1 q) spells_none
bytes_spell (a ∷ b ∷ c ∷ d ∷ e ∷ f ∷ g ∷ h ∷ x) q =
    let spare : 8 * suc (length (bytes x)) - length (a ∷ b ∷ c ∷ d ∷ e ∷ f ∷ g ∷ h ∷ x) ≡ 8 * length (bytes x) - length x = omega arith in
    rw spare (spells_eight a b c d e f g h (take_digits 8 (a ∷ b ∷ c ∷ d ∷ e ∷ f ∷ g ∷ h ∷ x) q) (bytes_spell x (drop_digits 8 _ q)))

-- lists of bytes with the same bits are the same
pub bits_once : (a b : List ℕ) → Bytes a → Bytes b → bits a ≡ bits b → a ≡ b
bits_once a b h k e = sym (bytes_of_bits a h) ∙ ap bytes e ∙ bytes_of_bits b k
