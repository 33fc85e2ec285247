-- The key call's answer for every input.
-- Assumes nothing.
use Rattle.std.specs.Prelude.{List, ℕ, eqb, ltb, length}
use Rattle.laws.specs.Agree.{both}
use Rattle.laws.specs.Pick.{pick}
use Rattle.aes.specs.Schedule.{schedule}
use Rattle.block.specs.Block.{mul2}
use Rattle.pcmac.specs.Limits.{highest_order, longest_tag, resolved_order, resolved_tag}
use Rattle.pcmac.specs.Keysch.{KEYSCH}
use Rattle.keys.specs.declared.KeySet.{KeySet}
use Rattle.keys.specs.declared.KeyAnswer.{KeyAnswer}
pub use Rattle.keys.specs.Told.{no_set}
use Rattle.keys.specs.Arrangement.{arranged}
use Rattle.numbers.specs.Numbers.{done, bad_order, bad_tag_length, bad_size}

-- the number of the first fault, 0 where there is none, of an order, a tag length, and the lengths of K and L: 1, the order is above 5;
-- 2, the tag length is above 128; 3, K or L is not 16 bytes
unfoldable pub key_number : ℕ → ℕ → ℕ → ℕ → ℕ
key_number order bits k l =
    pick (ltb highest_order order) bad_order
    (pick (ltb longest_tag bits) bad_tag_length (pick (both (eqb k 16) (eqb l 16)) done bad_size))

-- the key set for an order and a tag length that are meant, K and L
unfoldable pub set_of : ℕ → ℕ → List ℕ → List ℕ → KeySet
set_of d p K L = record {
  order = d;
  bits = p;
  round = schedule K;
  subkeys = arranged (KEYSCH d K L);
  full = mul2 L;
  short = mul2 (mul2 L);
}

-- done: 0, the steps that KEYSCH took, and the key set
unfoldable pub done_keys : ℕ → ℕ → List ℕ → List ℕ → KeyAnswer
done_keys d p K L = record { number = done; steps = (KEYSCH d K L).steps; keys = set_of d p K L }

-- refused: the number, no steps, and the set of zeros
unfoldable pub refused_keys : ℕ → KeyAnswer
refused_keys number = record { number = number; steps = 0; keys = no_set }

-- the answer
unfoldable pub key_answer : ℕ → ℕ → List ℕ → List ℕ → KeyAnswer
key_answer order bits K L =
    pick (eqb (key_number order bits (length K) (length L)) done) (done_keys (resolved_order order) (resolved_tag bits) K L)
    (refused_keys (key_number order bits (length K) (length L)))
