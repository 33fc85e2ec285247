-- The accessors by cases: within their places, and outside them.
-- Assumes nothing.
use Rattle.std.proofs.Common.{◌≡◌, List, ℕ, ◌+◌, ◌-◌, ◌*◌, ◌≤◌}
use Rattle.laws.proofs.UpTo.{up_to_is}
use Rattle.keys.specs.Arrangement.{place_at, u_part, x_key}

module _ (subkeys : List ℕ) where
  pub u_within : (w j : ℕ) → 1 ≤ w → w ≤ 5 → 1 ≤ j → j ≤ 3 → u_part subkeys w j ≡ place_at subkeys (3 * (w - 1) + (j - 1))
  unfolding u_part
  u_within w j a b c d = rw (up_to_is 5 w a b, up_to_is 3 j c d)

  pub x_within : (j : ℕ) → 1 ≤ j → j ≤ 4 → x_key subkeys j ≡ place_at subkeys (15 + (j - 1))
  unfolding x_key
  x_within j a b = rw (up_to_is 4 j a b)
