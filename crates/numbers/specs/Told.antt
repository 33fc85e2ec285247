-- The number that each refusal is told by, and of a call's outcome: 0 where nothing is refused.
-- Assumes nothing.
use Rattle.std.specs.Prelude.{Result, Ok, Err, ℕ}
use Rattle.numbers.specs.declared.Refusal.{Refusal}
use Rattle.numbers.specs.declared.Refusal.TheVariants.{BadOrder, BadTagLength, BadSize, BadStream, TooLong}
use Rattle.numbers.specs.declared.Refusal.TheVariants.{NoBytes, TagDiffers, BadLength, NotHex, BadBody}
use Rattle.numbers.specs.Numbers.{done, bad_order, bad_tag_length, bad_size, bad_stream, too_long}
use Rattle.numbers.specs.Numbers.{no_bytes, tag_differs, bad_length, not_hex, bad_body}

-- of a refusal
unfoldable pub number_of : Refusal → ℕ
number_of BadOrder = bad_order
number_of BadTagLength = bad_tag_length
number_of BadSize = bad_size
number_of BadStream = bad_stream
number_of TooLong = too_long
number_of NoBytes = no_bytes
number_of TagDiffers = tag_differs
number_of BadLength = bad_length
number_of NotHex = not_hex
number_of BadBody = bad_body

-- of a call's outcome, whatever it hands back where nothing is refused
unfoldable pub number : {A : Type 0} → Result A Refusal → ℕ
number (Ok a) = done
number (Err why) = number_of why
