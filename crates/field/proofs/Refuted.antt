-- Wrong tables that the promise does not permit, each told apart by one entry.
-- Assumes nothing.
use mathlib.Core.Path.{◌≡◌, ap, ◌∙◌}
use mathlib.Core.List.{List}
use Prim.Native.Nat.{ℕ}
use native.Mathlib.Omega.{arith}
use lib.ListN.{get_or}
use Rattle.field.specs.Field.{xtime, mul_digits}
use Rattle.field.specs.Sbox.{sub_byte, affine, affine_digits, affine_digit, digit, inverse, pow_digits}
use Rattle.field.specs.Promise.{SboxPromise}
use Rattle.field.proofs.Table.{sbox_at}

module _ (r : List ℕ) (p : SboxPromise r) where
  first_is : get_or r 0 0 ≡ 0x63
  unfolding sub_byte affine affine_digits affine_digit digit inverse pow_digits mul_digits xtime
  first_is = ap (λ (l : List ℕ). get_or l 0 0) p ∙ sbox_at 0 (omega arith)

  -- 00 to 00, as if the affine map had no constant there
  pub zero_to_zero : get_or r 0 0 ≡ 0x00 → ⊥
  zero_to_zero h = omega (arith, first_is)

  -- 00 to 62, as if the affine map added {62}
  pub another_constant : get_or r 0 0 ≡ 0x62 → ⊥
  another_constant h = omega (arith, first_is)
