-- Each block that comes out of a cipher has sixteen bytes.
-- Assumes nothing.
use mathlib.Core.Path.{◌≡◌, refl}
use mathlib.Core.List.{List}
use Prim.Native.Nat.{ℕ}
use lib.ListN.{length}
use Rattle.aes.specs.Cipher.{cipher}

pub cipher_length : (w block : List ℕ) → length (cipher w block) ≡ 16
unfolding cipher
cipher_length w block = refl
