-- GF(2^8) of FIPS 197, section 4. A byte is a polynomial of degree below 8 over GF(2), binary digit i its coefficient of x^i: 3.2, (3.1).
-- Sections, equations and figures of FIPS 197 are those of its edition of 26 November 2001, here and in the crates above.
-- Assumes nothing.
use Rattle.std.specs.Prelude.{ℕ, zero, suc, ◌*◌, ◌/◌, ◌%◌, ltb}
use Rattle.std.specs.Int.Bits.{bit_xor}
use Rattle.laws.specs.Pick.{pick}

infixl 60 ◌⊕◌
-- 4.1: the sum of two bytes is their exclusive or
abbrev pub ◌⊕◌ : ℕ → ℕ → ℕ
a ⊕ b = bit_xor a b

-- 4.2, (4.1): m(x) = x^8 + x^4 + x^3 + x + 1, the modulus of every product
abbrev pub modulus : ℕ
modulus = 0b1_0001_1011

-- 4.2.1: the product of b and x. The digits move up by one; where that gives the degree 8, m(x) is subtracted
unfoldable pub xtime : ℕ → ℕ
xtime b = pick (ltb b 128) (2 * b) (2 * b ⊕ modulus)

-- for 4.2: s, and b more where the digit is 1
abbrev pub add_if : ℕ → ℕ → ℕ → ℕ
add_if zero b s = s
add_if (suc digit) b s = s ⊕ b

-- 4.2.1: b times the polynomial of the n lowest digits of a: the lowest digit's share, and x times what the rest gives
unfoldable pub mul_digits : ℕ → ℕ → ℕ → ℕ
mul_digits zero a b = 0
mul_digits (suc n) a b = add_if (a % 2) b (xtime (mul_digits n (a / 2) b))

-- 4.2: the product a • b of two bytes
abbrev pub mul : ℕ → ℕ → ℕ
mul a b = mul_digits 8 a b
