-- `judge::first` meets its contract. By whether the first is a fault.
-- Assumes nothing.
use Rattle.std.proofs.Common.{refl}
use Rattle.laws.proofs.Fault.{fault_found, fault_pass, fault_last}
use Rattle.judge.proofs.first.Goals as goal

pub returns-then-a-ne0 : goal.returns-then-a-ne0
returns-then-a-ne0 c = fault_found _ refl c.if-a-ne0.true

pub returns-else-a-ne0 : goal.returns-else-a-ne0
returns-else-a-ne0 c = fault_pass _ refl c.if-a-ne0.false (fault_last refl)
