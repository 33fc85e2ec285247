-- What stands at each place of the substitution's table.
-- Assumes nothing.
use mathlib.Core.Path.{◌≡◌}
use Prim.Native.Nat.{ℕ, ◌<◌}
use lib.ListN.{get_or}
use Rattle.laws.proofs.Agree.{table_at}
use Rattle.field.specs.Sbox.{sub_byte, sbox_table}

pub sbox_at : (x : ℕ) → x < 256 → get_or sbox_table x 0 ≡ sub_byte x
unfolding sbox_table
sbox_at x h = table_at sub_byte 256 x h
