-- What the public functions of this crate promise, and that each promise leaves one answer.
-- Assumes nothing.
use Rattle.std.specs.Prelude.{◌≡◌, List, ℕ}
use Rattle.laws.proofs.Once.{once}
use Rattle.field.specs.Sbox.{sbox_table}

-- sbox hands back the table of the substitution, S(x) at each place x from 0 to 255
abbrev pub SboxPromise : List ℕ → Type 0
SboxPromise r = r ≡ sbox_table

-- any two answers that sbox may give are equal
pub sbox_once : (r r' : List ℕ) → SboxPromise r → SboxPromise r' → r ≡ r'
sbox_once r r' p q = once p q
