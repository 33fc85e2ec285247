-- What writing a line hands back, told as the outline tells it: a number, the counts of the tag, and how many characters were written;
-- zeros where it refuses.
-- Assumes nothing.
use Rattle.std.specs.Prelude.{◌≡◌, Result, Ok, Err}
use Rattle.std.proofs.Common.{ap, sym}
use Rattle.numbers.specs.declared.Refusal.{Refusal}
use Rattle.numbers.specs.Numbers.{done}
use Rattle.numbers.specs.Told.{number_of}
use Rattle.numbers.proofs.Number.{not_done, number_of_once}
use Rattle.writer.specs.declared.FrameLine.{FrameLine}
use Rattle.writer.specs.declared.Written.{Written}

-- 0, the counts and the length; or the number of the refusal, and zeros
unfoldable pub told_write : Result FrameLine Refusal → Written
told_write (Ok line) = record { number = done; whole = line.counts.whole; four = line.counts.four; written = line.length }
told_write (Err why) = record { number = number_of why; whole = 0; four = 0; written = 0 }

-- what is told alike is alike
pub told_write_once : (r r' : Result FrameLine Refusal) → told_write r ≡ told_write r' → r ≡ r'
unfolding told_write
told_write_once (Ok a) (Ok b) e =
    λ i. Ok (record { counts = record { whole = (e i).whole; four = (e i).four }; length = (e i).written })
told_write_once (Ok a) (Err why) e = absurd (not_done why (sym (ap (λ (w : Written). w.number) e)))
told_write_once (Err why) (Ok b) e = absurd (not_done why (ap (λ (w : Written). w.number) e))
told_write_once (Err why) (Err why') e = ap Err (number_of_once why why' (ap (λ (w : Written). w.number) e))
