-- What the key call hands back, told as the outline tells it: its number, the steps that it took, and the key set, of zeros where it
-- refuses.
-- Assumes nothing.
use Rattle.std.specs.Prelude.{◌≡◌, Result, Ok, Err, replicate}
use Rattle.std.proofs.Common.{ap, sym}
use Rattle.numbers.specs.Numbers.{done}
use Rattle.numbers.specs.Told.{number_of}
use Rattle.numbers.proofs.Number.{not_done, number_of_once}
use Rattle.numbers.specs.declared.Refusal.{Refusal}
use Rattle.block.specs.Block.{zeros}
use Rattle.keys.specs.declared.KeyAnswer.{KeyAnswer}
use Rattle.keys.specs.declared.KeySet.{KeySet}
use Rattle.keys.specs.declared.Made.{Made}

-- the set of zeros
abbrev pub no_set : KeySet
no_set = record {
  order = 0;
  bits = 0;
  round = replicate 176 0;
  subkeys = replicate 304 0;
  full = zeros;
  short = zeros;
}

-- what was made, or the number of the refusal, no steps, and the set of zeros
unfoldable pub told_keys : Result Made Refusal → KeyAnswer
told_keys (Ok made) = record { number = done; steps = made.steps; keys = made.keys }
told_keys (Err why) = record { number = number_of why; steps = 0; keys = no_set }

-- what is told alike is alike
pub told_keys_once : (r r' : Result Made Refusal) → told_keys r ≡ told_keys r' → r ≡ r'
unfolding told_keys
told_keys_once (Ok a) (Ok b) e = λ i. Ok (record { steps = (e i).steps; keys = (e i).keys })
told_keys_once (Ok a) (Err why) e = absurd (not_done why (sym (ap (λ (k : KeyAnswer). k.number) e)))
told_keys_once (Err why) (Ok b) e = absurd (not_done why (ap (λ (k : KeyAnswer). k.number) e))
told_keys_once (Err why) (Err why') e = ap Err (number_of_once why why' (ap (λ (k : KeyAnswer). k.number) e))
