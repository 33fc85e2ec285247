-- What each turn of `nine` keeps: the state is that after the rounds so far.
-- Assumes nothing.
use Rattle.std.proofs.Common.{◌≡◌, ◌-◌}
use Rattle.aes.specs.Cipher.{rounds}
use Rattle.aes.proofs.rounds.nine.Given as goal

abbrev pub invariant-loop-i : goal.invariant-loop-i
invariant-loop-i l = l.s ≡ rounds l.w l.initial.s (l.i - 1)
