-- What is made of a read, for every state, whatever the read gave and brought, and every space. What is written, and whether a write
-- fails, no contract can see: that all of a part was answered is told by the state alone, at the end of the input also by the space, and
-- a write that failed by the reason. So a program that says that a write failed which went out, or writes something else than what the
-- step left in its space, is not ruled out here: runs show that (tests/check, tests/send, tests/failures).
-- Assumes nothing.
use Rattle.std.specs.Prelude.{◌≡◌, Bool, false, ◌⊎◌, List, ℕ, eqb, ℤ, length, take}
use Rattle.laws.specs.Pick.{pick}
use Rattle.io.specs.Counts.{clamp_len}
use Rattle.session.specs.declared.State.{State}
use Rattle.program.specs.declared.Heard.{Heard}
use Rattle.program.specs.Reason.{negative, answered, ended, ended_space, unread, unwritten}

-- what is made of a read where no write fails, by what it gave: it failed; it brought nothing, so that the input has ended; or it brought
-- so many bytes, which are answered
unfoldable pub hears : State → ℤ → Bool → List ℕ → List ℕ → Heard
hears s got interrupted input space =
    pick (negative got) (unread s interrupted)
    (pick (eqb (clamp_len got (length input)) 0) (ended s space) (answered s (take (clamp_len got (length input)) input)))

-- what the space then holds: what the finishing step left, where the input has ended; otherwise what it held
unfoldable pub hears_space : State → ℤ → List ℕ → List ℕ → List ℕ
hears_space s got input space =
    pick (negative got) space (pick (eqb (clamp_len got (length input)) 0) (ended_space s space) space)

-- hear hands that back; or, where the read did not fail, that a write failed
abbrev pub HearPromise : State → ℤ → Bool → List ℕ → List ℕ → Heard → List ℕ → Type 0
HearPromise s got interrupted input space r after =
    ((r ≡ hears s got interrupted input space) ⊎ ((negative got ≡ false) × (r ≡ unwritten s))) × (after ≡ hears_space s got input space)
