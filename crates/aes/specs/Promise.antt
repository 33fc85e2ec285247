-- What the public functions of this crate promise, and that each promise leaves one answer.
-- Assumes nothing.
use Rattle.std.specs.Prelude.{◌≡◌, List, ℕ}
use Rattle.laws.proofs.Once.{once}
use Rattle.aes.specs.Cipher.{cipher}
use Rattle.aes.specs.FourRounds.{four_rounds}
use Rattle.aes.specs.Schedule.{schedule}

-- expand_key hands back the schedule of the key, its eleven round keys
abbrev pub ExpandKeyPromise : List ℕ → List ℕ → Type 0
ExpandKeyPromise key r = r ≡ schedule key

-- any two answers that expand_key may give are equal
pub expand_key_once : (key r r' : List ℕ) → ExpandKeyPromise key r → ExpandKeyPromise key r' → r ≡ r'
expand_key_once key r r' p q = once p q

-- encrypt_block hands back E of the block under the schedule w, whatever bytes w holds
abbrev pub EncryptBlockPromise : List ℕ → List ℕ → List ℕ → Type 0
EncryptBlockPromise w block r = r ≡ cipher w block

-- any two answers that encrypt_block may give are equal
pub encrypt_block_once : (w block r r' : List ℕ) → EncryptBlockPromise w block r → EncryptBlockPromise w block r' → r ≡ r'
encrypt_block_once w block r r' p q = once p q

-- four_rounds hands back G of the block under U1, U2, U3
abbrev pub FourRoundsPromise : List ℕ → List ℕ → List ℕ → List ℕ → List ℕ → Type 0
FourRoundsPromise u1 u2 u3 block r = r ≡ four_rounds u1 u2 u3 block

-- any two answers that four_rounds may give are equal
pub four_rounds_once : (u1 u2 u3 block r r' : List ℕ) → FourRoundsPromise u1 u2 u3 block r → FourRoundsPromise u1 u2 u3 block r'
    → r ≡ r'
four_rounds_once u1 u2 u3 block r r' p q = once p q
