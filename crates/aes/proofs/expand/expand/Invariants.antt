-- What each turn of `expand` keeps: the key and the words so far stand at the front of the schedule.
-- Assumes nothing.
use Rattle.std.proofs.Common.{◌-◌, take}
use Rattle.aes.proofs.Filled.{Filled}
use Rattle.aes.proofs.expand.expand.Given as goal

abbrev pub invariant-loop-i : goal.invariant-loop-i
invariant-loop-i l = Filled (take 16 l.initial.w) l.w (l.i - 4)
