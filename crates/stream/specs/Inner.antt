-- What the inner functions ask and hand back. No promise speaks of these, and no reader need believe them.
-- Assumes nothing.
use Rattle.std.specs.Prelude.{◌≡◌, List, ◌++◌, ℕ, ◌+◌, ◌/◌, ◌≤◌, ◌<◌, length}
use Rattle.block.specs.Block.{Block, sixteen}
use Rattle.chain.specs.declared.Chain.{Chain}
use Rattle.chain.specs.Walk.{Step, walk}
use Rattle.chain.specs.Stream.{after}
use Rattle.pcmac.specs.Limits.{message_limit}
use Rattle.keys.specs.declared.KeySet.{KeySet}
use Rattle.judge.specs.declared.Stream.{Stream}
use Rattle.judge.specs.Stream.{held_of}
use Rattle.judge.proofs.Formed.{Formed}

-- the stream is well formed, and the part is not too long for it
pub record Extends (d : ℕ) (s : Stream) (part : List ℕ) : Type 0 where
  pub form : Formed d s
  pub fits : s.total + length part ≤ message_limit

-- and the part fills up the held block, which then is this one, and goes on
pub record Past (d : ℕ) (s : Stream) (first : Block) (part : List ℕ) : Type 0 where
  pub extends : Extends d s part
  pub filled : first ≡ sixteen (held_of s ++ part)
  pub more : 16 < s.count + length part

-- the chain after the held block, filled up, and then the whole blocks of a part behind it
abbrev pub taken_both : ℕ → Step → ℕ → Chain → Block → List ℕ → Chain
taken_both d f done c first part =
    walk d f (after (done + 1) part) (done + 1 + 1) (length part / 16) (walk d f (after done first) (done + 1) 1 c)

-- the stream is well formed, and has at least one byte
pub record Closable (k : KeySet) (s : Stream) : Type 0 where
  pub form : Formed k.order s
  pub some : 1 ≤ s.total
