-- What decoding a line or encoding bytes tells: a number, and how many bytes or characters it wrote.
-- Assumes nothing.
use Rattle.std.specs.Prelude.{◌≡◌, Result, Ok, Err, ℕ}
use Rattle.std.proofs.Common.{ap, sym}
use Rattle.numbers.specs.declared.Refusal.{Refusal}
use Rattle.hex_line.specs.declared.LineAnswer.{LineAnswer}
use Rattle.numbers.specs.Numbers.{done}
use Rattle.numbers.specs.Told.{number_of}
use Rattle.numbers.proofs.Number.{not_done, number_of_once}

-- 0 and how much was written; a refusal, which has written nothing, by its number
unfoldable pub told_line : Result ℕ Refusal → LineAnswer
told_line (Ok n) = record { number = done; written = n }
told_line (Err why) = record { number = number_of why; written = 0 }

-- any two outcomes that tell the same are equal
pub told_line_once : (r r' : Result ℕ Refusal) → told_line r ≡ told_line r' → r ≡ r'
unfolding told_line
told_line_once (Ok n) (Ok m) e = ap Ok (ap (λ (a : LineAnswer). a.written) e)
told_line_once (Ok n) (Err why) e = absurd (not_done why (sym (ap (λ (a : LineAnswer). a.number) e)))
told_line_once (Err why) (Ok n) e = absurd (not_done why (ap (λ (a : LineAnswer). a.number) e))
told_line_once (Err why) (Err why') e = ap Err (number_of_once why why' (ap (λ (a : LineAnswer). a.number) e))
