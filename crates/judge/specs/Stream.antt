-- A stream: what its record stands for, and when it is well formed. The order is an argument, not a key set's.
-- Assumes nothing.
use Rattle.std.specs.Prelude.{Bool, true, List, [], ◌∷◌, ℕ, ◌+◌, ◌-◌, ◌%◌, eqb, leb, length, take, drop}
use Rattle.laws.specs.Agree.{both}
use Rattle.laws.specs.Pick.{pick}
use Rattle.block.specs.Block.{zeros, sixteen}
use Rattle.chain.specs.declared.Chain.{Chain}
use Rattle.chain.specs.Count.{whole_for, four_for}
use Rattle.chain.specs.Stream.{State, settled}
use Rattle.pcmac.specs.Limits.{message_limit}
use Rattle.judge.specs.declared.Stream.{Stream}

-- a stream of no bytes
abbrev pub started : Stream
started = record { total = 0; value = zeros; held = zeros; count = 0; whole = 0; four = 0 }

-- its chain
abbrev pub chain_of : Stream → Chain
chain_of s = record { value = s.value; whole = s.whole; four = s.four }

-- its held bytes, those that are used
abbrev pub held_of : Stream → List ℕ
held_of s = take s.count s.held

-- what a stream stands for: how many blocks are known not to be the last, the chain after them, and the bytes held
unfoldable pub view_of : Stream → State
view_of s = record { done = settled s.total; chain = chain_of s; held = held_of s }

-- the stream that stands for a state after so many bytes: unused held bytes are zero
unfoldable pub stream_of : ℕ → State → Stream
stream_of total t = record {
  total = total;
  value = t.chain.value;
  held = sixteen t.held;
  count = length t.held;
  whole = t.chain.whole;
  four = t.chain.four;
}

-- how many bytes are held of n: with 0 none, otherwise ((n - 1) mod 16) + 1, because a full block may still be the last
unfoldable pub held_for : ℕ → ℕ
held_for n = pick (eqb n 0) 0 ((n - 1) % 16 + 1)

-- each byte is zero
unfoldable pub all_zero : List ℕ → Bool
all_zero [] = true
all_zero (x ∷ l) = both (eqb x 0) (all_zero l)

-- well formed for an order: the total is within the limit; the held count is that of the total; unused held bytes are zero; both counts
-- are those of the total and the order; and the chain value is zero while the total is at most 16
unfoldable pub formed : ℕ → Stream → Bool
formed d s =
    both (leb s.total message_limit)
    (both (eqb s.count (held_for s.total))
    (both (all_zero (drop s.count s.held))
    (both (eqb s.whole (whole_for d s.total))
    (both (eqb s.four (four_for d s.total)) (pick (leb s.total 16) (all_zero s.value) true)))))
