-- The tag of a message under whichever key set: its bits, its bytes, and the rule of acceptance at it, so that what is written of it is
-- just what a check of it accepts.
-- Assumes nothing.
use Rattle.std.proofs.Common.{◌≡◌, true, ◌↔◌, List, ℕ, ◌≤◌, length}
use Rattle.laws.proofs.Bytes.{Bytes}
use Rattle.aes.proofs.Length.{cipher_length}
use Rattle.block.specs.Bits.{bits, bytes}
use Rattle.block.proofs.Digits.{Digits, bytes_spell}
use Rattle.pcmac.specs.Taggen.{sealed, taggen}
use Rattle.pcmac.specs.Tagver.{accepted}
use Rattle.pcmac.proofs.Tagver.{accepted_bytes}
use Rattle.keys.specs.declared.KeySet.{KeySet}
use Rattle.keys.specs.KeysIn.{keys_in}
use Rattle.tag.specs.Tag.{tag_bytes}
use Rattle.tag.proofs.Tagged.{cut_digits, cut_length, tag_length}
use Rattle.message.specs.Answer.{tagged}

module _ (k : KeySet) (M : List ℕ) where
  -- it is cut of a block: binary digits
  tagged_digits : Digits (tagged k M).tag
  unfolding tagged taggen sealed
  tagged_digits = cut_digits k.bits _

  -- which make bytes
  pub tagged_bytes : Bytes (bytes (tagged k M).tag)
  tagged_bytes = (bytes_spell (tagged k M).tag tagged_digits).small

  module _ (l : k.bits ≤ 128) where
    -- so many bits
    pub tagged_bits : length (tagged k M).tag ≡ k.bits
    unfolding tagged taggen sealed keys_in
    tagged_bits = cut_length k.bits _ l (cipher_length _ _)

    -- so many bytes
    pub tagged_length : length (bytes (tagged k M).tag) ≡ tag_bytes k.bits
    unfolding tagged taggen sealed keys_in
    tagged_length = tag_length k.bits _ l (cipher_length _ _)

    -- and of received bytes it is just these that are accepted
    pub tagged_spelt : (received : List ℕ) → Bytes received → length received ≡ tag_bytes k.bits
        → (accepted k.bits (bits received) (tagged k M).tag ≡ true) ↔ (received ≡ bytes (tagged k M).tag)
    tagged_spelt received h n = accepted_bytes k.bits received (tagged k M).tag h n tagged_digits tagged_bits
