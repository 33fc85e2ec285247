-- What the calls over a whole message answer, for every input.
-- Assumes nothing.
use Rattle.std.specs.Prelude.{false, List, [], ◌∷◌, ℕ, length}
use Rattle.laws.specs.Fault.{first_fault}
use Rattle.pcmac.specs.Taggen.{Tagged, taggen}
use Rattle.keys.specs.declared.KeySet.{KeySet}
use Rattle.keys.specs.KeysIn.{keys_in}
use Rattle.keys.specs.SetNumber.{set_number}
use Rattle.tag.specs.declared.TagAnswer.{TagAnswer}
use Rattle.tag.specs.Answer.{making_answer, making_slice, checking_answer}
use Rattle.tag.specs.Fault.{size_number}
use Rattle.judge.specs.Fault.{length_number, empty_number}

-- the number of the first fault of a message of m bytes and a tag slice of n: 1, 2, 3, 5, 6. In PC-MAC-AES no message is empty
unfoldable pub message_number : KeySet → ℕ → ℕ → ℕ
message_number k m n =
    first_fault (set_number k ∷ size_number k.bits n ∷ length_number m ∷ empty_number false m ∷ [])

-- the tag and the counts of a message: Algorithm 2.2 under the keys of the set
unfoldable pub tagged : KeySet → List ℕ → Tagged
tagged k message = taggen (keys_in k) k.order k.bits message

-- making: the answer
abbrev pub tag_answer : KeySet → List ℕ → ℕ → TagAnswer
tag_answer k message n = making_answer (message_number k (length message) n) (tagged k message)

-- and what the tag slice holds then
abbrev pub tag_slice : KeySet → List ℕ → List ℕ → List ℕ
tag_slice k message slice = making_slice (message_number k (length message) (length slice)) (tagged k message) slice

-- checking against a received tag
abbrev pub verdict : KeySet → List ℕ → List ℕ → TagAnswer
verdict k message received =
    checking_answer (message_number k (length message) (length received)) k.bits received (tagged k message)
