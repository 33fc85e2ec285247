-- A tag's bits and its bytes: how many they are, and that the bytes stand at the front of a block.
-- Assumes nothing.
use Rattle.std.proofs.Common.{◌≡◌, ap, ap₂, ◌∙◌, List, ℕ, ◌-◌, ◌≤◌, arith, length, take, replicate, length-take, length-take-le, take_at}
use Rattle.laws.specs.Up.{up}
use Rattle.block.specs.Bits.{bits, bytes}
use Rattle.block.specs.Block.{cut, sixteen}
use Rattle.block.proofs.Bits.{bytes_length}
use Rattle.block.proofs.Digits.{Digits, bits_digits, take_digits}
use Rattle.block.proofs.Padding.{bits_length}
use Rattle.block.proofs.Sixteen.{sixteen_short}
use Rattle.tag.specs.Tag.{tag_bytes}

-- a tag of p bits is that many binary digits
pub cut_digits : (p : ℕ) (x : List ℕ) → Digits (cut p x)
unfolding cut
cut_digits p x = take_digits p (bits x) (bits_digits x)

pub cut_length : (p : ℕ) (x : List ℕ) → p ≤ 128 → length x ≡ 16 → length (cut p x) ≡ p
unfolding cut
cut_length p x l h = length-take-le p (bits x) (omega (arith, bits_length x))

-- never more
pub cut_within : (p : ℕ) (x : List ℕ) → length (cut p x) ≤ p
unfolding cut
cut_within p x = simp length-take (omega arith)

-- and its bytes
pub tag_length : (p : ℕ) (x : List ℕ) → p ≤ 128 → length x ≡ 16 → length (bytes (cut p x)) ≡ tag_bytes p
tag_length p x l h = bytes_length (cut p x) ∙ ap (λ (k : ℕ). up k 8) (cut_length p x l h)

-- they are the front of the block that they make with zeros behind them, and so what a slice of their size holds of it
pub tag_written : (p : ℕ) (x a l : List ℕ) {s : List ℕ} → s ≡ take (length l) a → a ≡ sixteen (bytes (cut p x)) → p ≤ 128
    → length l ≡ tag_bytes p → length x ≡ 16 → s ≡ bytes (cut p x)
tag_written p x a l e f b h size =
    let n = tag_length p x b size in
    e ∙ ap₂ (λ (i : ℕ) (y : List ℕ). take i y) h (f ∙ sixteen_short (bytes (cut p x)) (omega (arith, n)))
    ∙ take_at (bytes (cut p x)) (replicate (16 - length (bytes (cut p x))) 0) (tag_bytes p) n
