-- `aes::expand::round_constant` meets its contract. Entry i - 1 of the powers is x^(i-1).
-- Assumes nothing.
use mathlib.Core.Path.{ap}
use mathlib.Core.List.{[], ◌∷◌}
use Prim.Native.Nat.{ℕ, ◌-◌}
use Rattle.laws.proofs.Agree.{table_at}
use Rattle.aes.specs.Schedule.{x_power, rcon}
use borrow.Author.Rules.{rules}
use Rattle.aes.proofs.expand.round_constant.Goals as goal

pub returns : goal.returns
unfolding rcon
returns c =
    rw c.powers-by_n.ensures
    (ap (λ (x : ℕ). x ∷ 0 ∷ 0 ∷ 0 ∷ []) (table_at x_power 10 (c.args.i - 1) (search rules)))
