-- Faults of what a call is handed, apart from its key set and its tag slice: each gives the number of the fault, and 0 where there is none.
-- Assumes nothing.
use Rattle.std.specs.Prelude.{Bool, true, ℕ, leb}
use Rattle.laws.specs.Fault.{unless}
use Rattle.laws.specs.Pick.{pick}
use Rattle.pcmac.specs.Limits.{message_limit}
use Rattle.numbers.specs.Numbers.{bad_stream, too_long, no_bytes}
use Rattle.judge.specs.declared.Stream.{Stream}
use Rattle.judge.specs.Stream.{formed}

-- 4: the stream is not well formed for the order
unfoldable pub stream_number : ℕ → Stream → ℕ
stream_number d s = unless (formed d s) bad_stream

-- 5: n bytes are more than a message may have
unfoldable pub length_number : ℕ → ℕ
length_number n = unless (leb n message_limit) too_long

-- 6: there are no bytes, and the message may not be empty
unfoldable pub empty_number : Bool → ℕ → ℕ
empty_number mayBeEmpty n = unless (pick mayBeEmpty true (leb 1 n)) no_bytes
