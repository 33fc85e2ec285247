-- What the calls over a stream answer, for every input.
-- Assumes nothing.
use Rattle.std.specs.Prelude.{false, List, [], ◌∷◌, ℕ, ◌+◌, eqb, length}
use Rattle.laws.specs.Fault.{first_fault}
use Rattle.laws.specs.Pick.{pick}
use Rattle.block.specs.Block.{blocks}
use Rattle.chain.specs.Walk.{Step}
use Rattle.chain.specs.Stream.{add}
use Rattle.pcmac.specs.Taggen.{Tagged, step_of, sealed}
use Rattle.keys.specs.declared.KeySet.{KeySet}
use Rattle.keys.specs.KeysIn.{keys_in}
use Rattle.numbers.specs.Numbers.{done}
use Rattle.keys.specs.SetNumber.{set_number}
use Rattle.tag.specs.declared.TagAnswer.{TagAnswer}
use Rattle.tag.specs.Answer.{making_answer, making_slice, checking_answer}
use Rattle.tag.specs.Fault.{size_number}
use Rattle.judge.specs.declared.Stream.{Stream}
use Rattle.judge.specs.Stream.{chain_of, held_of, view_of, stream_of}
use Rattle.judge.specs.Fault.{stream_number, length_number, empty_number}
use Rattle.stream.specs.declared.Added.{Added}

-- the number of the first fault where a part of n bytes is added: 1, 2, 4, 5
unfoldable pub add_number : KeySet → Stream → ℕ → ℕ
add_number k s n = first_fault (set_number k ∷ stream_number k.order s ∷ length_number (s.total + n) ∷ [])

-- a stream with a part more: the chain goes on from its chain value
unfoldable pub added_to : ℕ → Step → Stream → List ℕ → Stream
added_to d f s part = stream_of (s.total + length part) (add d f (view_of s) part)

-- adding: 0 and the stream with the part; refused, the number and the stream as it was given
unfoldable pub add_answer : KeySet → Stream → List ℕ → Added
add_answer k s part =
    pick (eqb (add_number k s (length part)) done)
    (record { number = done; stream = added_to k.order (step_of (keys_in k)) s part })
    (record { number = add_number k s (length part); stream = s })

-- the number of the first fault where a stream is closed into a tag slice of n bytes, or checked against one: 1, 2, 3, 4, 6. In
-- PC-MAC-AES no message is empty
unfoldable pub close_number : KeySet → Stream → ℕ → ℕ
close_number k s n =
    first_fault
    (set_number k ∷ size_number k.bits n ∷ stream_number k.order s ∷ empty_number false s.total ∷ [])

-- the tag and the counts of a stream, closed: Algorithm 2.2 from its chain, the bytes held being the last block
unfoldable pub closed : KeySet → Stream → Tagged
closed k s = sealed (keys_in k) k.bits (blocks s.total) (chain_of s) (held_of s)

-- closing: the answer
abbrev pub close_answer : KeySet → Stream → ℕ → TagAnswer
close_answer k s n = making_answer (close_number k s n) (closed k s)

-- and what the tag slice holds then
abbrev pub close_slice : KeySet → Stream → List ℕ → List ℕ
close_slice k s slice = making_slice (close_number k s (length slice)) (closed k s) slice

-- checking against a received tag
abbrev pub check_answer : KeySet → Stream → List ℕ → TagAnswer
check_answer k s received = checking_answer (close_number k s (length received)) k.bits received (closed k s)
