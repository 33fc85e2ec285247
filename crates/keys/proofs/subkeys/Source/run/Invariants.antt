-- After i turns i steps are taken, and there is room for the others.
use Rattle.aes.specs.Cipher.{cipher}
use Rattle.keys.proofs.Ran.{Running}
use Rattle.keys.proofs.subkeys.Source.run.Given as goal

abbrev pub invariant-loop-i : goal.invariant-loop-i
invariant-loop-i l = Running (cipher l.self.round.now) l.self.l l.place l.counter l.n l.initial.r l.r l.i
