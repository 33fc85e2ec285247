-- The tag of TAGGEN under a key set that the key call answers: how many bytes it occupies, which received tags are right, and that of
-- bytes it is its own alone.
-- Assumes nothing.
use Rattle.std.specs.Prelude.{◌≡◌, refl, true, ◌↔◌, List, ℕ, length, take}
use Rattle.std.proofs.Common.{ap, sym, ◌∙◌}
use Rattle.laws.proofs.Bytes.{Bytes}
use Rattle.block.specs.Bits.{bits, bytes}
use Rattle.pcmac.specs.Taggen.{TAGGEN}
use Rattle.pcmac.specs.Tagver.{accepted}
use Rattle.pcmac.proofs.Tagver.{accepted_parts, tagver_equal, equal_tagver}
use Rattle.keys.specs.declared.KeyAnswer.{KeyAnswer}
use Rattle.tag.specs.Tag.{tag_bytes}
use Rattle.message.specs.Answer.{tagged}
use Rattle.writer.proofs.TagBits.{tagged_bits, tagged_bytes, tagged_length, tagged_spelt}
use Rattle.demands.specs.Terms.{Made, Right}
use Rattle.demands.proofs.KeySet.{made_taken, made_tag_is}

module _ {order size : ℕ} {K L : List ℕ} {made : KeyAnswer} (m : Made order size K L made) (M : List ℕ) where
  abbrev d : ℕ
  d = made.keys.order

  abbrev p : ℕ
  p = made.keys.bits

  abbrev T : List ℕ
  T = TAGGEN d p K L M

  pub taggen_length : length (bytes T) ≡ tag_bytes p
  taggen_length = ap (λ (t : List ℕ). length (bytes t)) (sym (made_tag_is m M)) ∙ tagged_length made.keys M (made_taken m).tag.high

  taggen_bytes : Bytes (bytes T)
  taggen_bytes = rw (made_tag_is m M) at (tagged_bytes made.keys M)

  -- just what is right is accepted
  pub right_accepted : (received : List ℕ)
      → Right d p K L M received ↔ (accepted p (bits received) (tagged made.keys M).tag ≡ true)
  right_accepted received =
      let parts =
      accepted_parts p (bits received) (tagged made.keys M).tag (tagged_bits made.keys M (made_taken m).tag.high) in
      let first : List ℕ = take p (bits received) in (
        λ q. parts.1 (tagver_equal d p K L M first q.stated ∙ sym (made_tag_is m M), q.spare),
        λ t. record { stated = equal_tagver d p K L M first ((parts.0 t).0 ∙ made_tag_is m M); spare = (parts.0 t).1 },
      )

  -- of bytes, as many as the tag occupies, its own
  pub right_spelt : (received : List ℕ) → Bytes received → length received ≡ tag_bytes p → Right d p K L M received ↔ (received ≡ bytes T)
  right_spelt received h n =
      let spelt = tagged_spelt made.keys M (made_taken m).tag.high received h n in
      let right = right_accepted received in (
        λ q. spelt.0 (right.0 q) ∙ ap bytes (made_tag_is m M),
        λ e. right.1 (spelt.1 (e ∙ ap bytes (sym (made_tag_is m M)))),
      )

  -- so it is right
  pub taggen_right : Right d p K L M (bytes T)
  taggen_right = (right_spelt (bytes T) taggen_bytes taggen_length).1 refl
