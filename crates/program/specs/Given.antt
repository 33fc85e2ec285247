-- What a read gave, as the number and the word that are promised of.
-- Assumes nothing.
use Rattle.std.specs.Prelude.{Bool, true, false, ℕ, ℤ, pos, negsuc, Result, Ok, Err}
use Rattle.std.specs.IoError.{error_kind}
use Rattle.std.specs.declared.io.Error.{Error}
use Rattle.std.specs.declared.io.ErrorKind.{ErrorKind}
use Rattle.std.specs.declared.io.ErrorKind.TheVariants.{Interrupted}

-- how many bytes it brought, or a number below 0 where it failed
abbrev pub got_of : Result ℕ Error → ℤ
got_of (Ok n) = pos n
got_of (Err why) = negsuc 0

-- a failure that is none but an interruption
abbrev pub is_interrupted : ErrorKind → Bool
is_interrupted Interrupted = true
is_interrupted _ = false

-- whether it was only interrupted
abbrev pub interrupted_of : Result ℕ Error → Bool
interrupted_of (Ok n) = false
interrupted_of (Err why) = is_interrupted (error_kind why)
