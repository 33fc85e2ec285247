-- What adding hands back, told as the outline tells it: its number, and the stream, which is the one that was given where it refuses.
-- Assumes nothing.
use Rattle.std.specs.Prelude.{◌≡◌, Result, Ok, Err}
use Rattle.std.proofs.Common.{ap, sym}
use Rattle.numbers.specs.Numbers.{done}
use Rattle.numbers.specs.Told.{number_of}
use Rattle.numbers.proofs.Number.{not_done, number_of_once}
use Rattle.numbers.specs.declared.Refusal.{Refusal}
use Rattle.judge.specs.declared.Stream.{Stream}
use Rattle.stream.specs.declared.Added.{Added}

-- 0 and the stream with the part, or the number of the refusal and the stream s as it was given
unfoldable pub told_added : Stream → Result Stream Refusal → Added
told_added s (Ok t) = record { number = done; stream = t }
told_added s (Err why) = record { number = number_of why; stream = s }

-- what is told alike is alike
pub told_added_once : (s : Stream) (r r' : Result Stream Refusal) → told_added s r ≡ told_added s r' → r ≡ r'
unfolding told_added
told_added_once s (Ok a) (Ok b) e = ap (λ (x : Added). Ok x.stream) e
told_added_once s (Ok a) (Err why) e = absurd (not_done why (sym (ap (λ (x : Added). x.number) e)))
told_added_once s (Err why) (Ok b) e = absurd (not_done why (ap (λ (x : Added). x.number) e))
told_added_once s (Err why) (Err why') e = ap Err (number_of_once why why' (ap (λ (x : Added). x.number) e))
