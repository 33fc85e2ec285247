-- What the inner functions of the calls that make or check a tag hand back. No promise speaks of it, and no reader need believe it.
-- Assumes nothing.
use Rattle.std.specs.Prelude.{◌≡◌, ℕ, length}
use Rattle.chain.specs.declared.Chain.{Chain}
use Rattle.pcmac.specs.Taggen.{Tagged}
use Rattle.tag.specs.Answer.{tagged_by}

-- the chain after the closing step: its value is sixteen bytes, of which the tag of p bits is cut, with the counts
pub record Sealed (p : ℕ) (t : Tagged) (c : Chain) : Type 0 where
  pub size : length c.value ≡ 16
  pub tag : tagged_by p c ≡ t
