-- The fault of a message that is too long, tested on a sum that may stop at the highest number there is.
-- Assumes nothing.
use Rattle.std.proofs.Common.{◌≡◌, refl, ap, Bool, true, false, ℕ, ◌+◌, ◌-◌, ◌^◌, min, leb, arith, leb-true, leb-false, le-leb}
use borrow.Author.Tests.{lt-leb}
use Rattle.laws.specs.Fault.{unless}
use Rattle.pcmac.specs.Limits.{message_limit}
use Rattle.judge.specs.Fault.{length_number}

pub limit_sum : (total n sum : ℕ) → sum ≡ min (total + n) (2 ^ 64 - 1) → unless (leb sum message_limit) 5 ≡ length_number (total + n)
unfolding length_number
limit_sum total n sum e = ap (λ (t : Bool). unless t 5) (by (leb sum message_limit) refl)
  where
    by : (t : Bool) → leb sum message_limit ≡ t → leb sum message_limit ≡ leb (total + n) message_limit
    by true h =
        let l = leb-true sum message_limit h in
        rw (h, le-leb (total + n) message_limit (omega arith))
    by false h =
        let l = leb-false sum message_limit h in
        rw (h, lt-leb (total + n) message_limit (omega arith))
