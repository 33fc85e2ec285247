-- The keys that Algorithm 2.2 works with, as they stand in a key set: whatever its bytes are, it has these.
-- Assumes nothing.
use Rattle.aes.specs.Cipher.{cipher}
use Rattle.pcmac.specs.Taggen.{Keys}
use Rattle.keys.specs.declared.KeySet.{KeySet}
use Rattle.keys.specs.Arrangement.{u_part, x_key}

-- E under the stored round keys, the subkeys by their two accessors, and both masks
unfoldable pub keys_in : KeySet → Keys
keys_in s = record {
  whole = cipher s.round;
  u = u_part s.subkeys;
  x = x_key s.subkeys;
  full = s.full;
  short = s.short;
}
