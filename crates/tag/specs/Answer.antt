-- What the calls that make or check a tag answer, from the chain after its closing step or from the number of a fault.
-- Assumes nothing.
use Rattle.std.specs.Prelude.{List, ℕ, eqb}
use Rattle.laws.specs.Pick.{pick}
use Rattle.block.specs.Bits.{bits, bytes}
use Rattle.block.specs.Block.{cut}
use Rattle.chain.specs.declared.Chain.{Chain}
use Rattle.pcmac.specs.Taggen.{Tagged}
use Rattle.pcmac.specs.Tagver.{accepted}
use Rattle.numbers.specs.Numbers.{done, tag_differs}
use Rattle.tag.specs.declared.TagAnswer.{TagAnswer}

-- the tag's bits and the counts, out of the chain after the closing step: its value is E(h), of which the tag is the first p bits
unfoldable pub tagged_by : ℕ → Chain → Tagged
tagged_by p c = record { tag = cut p c.value; whole = c.whole; four = c.four }

-- refused: the number, and no counts
unfoldable pub refused_tag : ℕ → TagAnswer
refused_tag number = record { number = number; whole = 0; four = 0 }

-- made: 0, and the counts
unfoldable pub made_tag : Tagged → TagAnswer
made_tag t = record { number = done; whole = t.whole; four = t.four }

-- checked: 0 where the received bits are the tag's p and then zeros, otherwise 7; the counts in either case
unfoldable pub checked_tag : ℕ → List ℕ → Tagged → TagAnswer
checked_tag p received t = record {
  number = pick (accepted p (bits received) t.tag) done tag_differs;
  whole = t.whole;
  four = t.four;
}

-- the answer of a call that makes a tag, by the number of its first fault, 0 where there is none
unfoldable pub making_answer : ℕ → Tagged → TagAnswer
making_answer number t = pick (eqb number done) (made_tag t) (refused_tag number)

-- and what its tag slice holds then: the tag's bytes, the spare low bits of the last of them zero; where it is refused, what it held
unfoldable pub making_slice : ℕ → Tagged → List ℕ → List ℕ
making_slice number t slice = pick (eqb number done) (bytes t.tag) slice

-- the answer of a call that checks a tag, by the number of its first fault
unfoldable pub checking_answer : ℕ → ℕ → List ℕ → Tagged → TagAnswer
checking_answer number p received t = pick (eqb number done) (checked_tag p received t) (refused_tag number)
