-- The substitution of FIPS 197, section 5.1.1, written without its table: the multiplicative inverse, then the affine map.
-- Assumes nothing.
use Rattle.std.specs.Prelude.{ℕ, zero, suc, ◌+◌, ◌*◌, ◌/◌, ◌%◌, ◌^◌, List}
use Rattle.laws.specs.Agree.{table}
use Rattle.field.specs.Field.{mul}

-- for 4.2: p, and b once more as a factor where the digit is 1
abbrev pub mul_if : ℕ → ℕ → ℕ → ℕ
mul_if zero b p = p
mul_if (suc digit) b p = mul p b

-- for 4.2: p • p
abbrev pub square : ℕ → ℕ
square p = mul p p

-- for 4.2: b to the power that the n lowest digits of e are
unfoldable pub pow_digits : ℕ → ℕ → ℕ → ℕ
pow_digits zero e b = 1
pow_digits (suc n) e b = mul_if (e % 2) b (square (pow_digits n (e / 2) b))

-- 4.2: the inverse b^(-1), as b^254: the 255 nonzero bytes are a group under •, so b^255 = {01}; {00} goes to {00}.
-- That b • inverse b is {01} for every nonzero byte is proved: proofs/Inverse.antt
unfoldable pub inverse : ℕ → ℕ
inverse b = pow_digits 8 254 b

-- 3.2: b_i, binary digit i of b, with i taken mod 8 as (5.1) takes it
unfoldable pub digit : ℕ → ℕ → ℕ
digit b i = b / 2 ^ (i % 8) % 2

-- (5.1): digit i of the affine map, the sum over GF(2) of five digits of b and one of c = {63}
unfoldable pub affine_digit : ℕ → ℕ → ℕ
affine_digit b i = (digit b i + digit b (i + 4) + digit b (i + 5) + digit b (i + 6) + digit b (i + 7) + digit 0x63 i) % 2

-- 5.1.1: the n lowest digits of the affine map
unfoldable pub affine_digits : ℕ → ℕ → ℕ
affine_digits zero b = 0
affine_digits (suc n) b = affine_digits n b + affine_digit b n * 2 ^ n

-- 5.1.1: the affine map of a byte
unfoldable pub affine : ℕ → ℕ
affine b = affine_digits 8 b

-- 5.1.1: S(b), the byte that SubBytes puts for b
unfoldable pub sub_byte : ℕ → ℕ
sub_byte b = affine (inverse b)

-- 5.1.1, Figure 7: S(00), S(01), .., S(ff)
unfoldable pub sbox_table : List ℕ
sbox_table = table sub_byte 256
