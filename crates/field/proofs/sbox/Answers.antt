-- `field::sbox` meets its contract. The rule, inverse and affine map, is tested once over all of the constant.
-- Assumes nothing.
use mathlib.Core.Path.{refl}
use Rattle.laws.proofs.Agree.{tabled}
use Rattle.field.specs.Field.{xtime, mul_digits}
use Rattle.field.specs.Sbox.{sub_byte, affine, affine_digits, affine_digit, digit, inverse, pow_digits, sbox_table}
use Rattle.field.proofs.sbox.Goals as goal

pub returns : goal.returns
unfolding sbox_table sub_byte affine affine_digits affine_digit digit inverse pow_digits mul_digits xtime
returns c = tabled sub_byte _ 256 refl tt
