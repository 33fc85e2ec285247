-- Whether a read that failed was only interrupted, as the derived test tells.
-- Assumes nothing.
use Rattle.std.specs.Prelude.{◌≡◌, refl}
use denote.Enum.Bare.{sameb}
use Rattle.std.specs.contracts.io.ErrorKind.{the_type}
use Rattle.std.specs.declared.io.ErrorKind.{ErrorKind}
use Rattle.std.specs.declared.io.ErrorKind.TheVariants.{Interrupted}
use Rattle.program.specs.Given.{is_interrupted}

pub interrupted_tells : (k : ErrorKind) → sameb the_type k Interrupted ≡ is_interrupted k
interrupted_tells Interrupted = refl
interrupted_tells _ = refl
