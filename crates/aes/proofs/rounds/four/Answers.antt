-- `aes::rounds::four` meets its contract. Its callees, put together, are the definition.
-- Assumes nothing.
use Rattle.aes.specs.FourRounds.{four_rounds}
use Rattle.aes.proofs.rounds.four.Goals as goal

pub returns : goal.returns
unfolding four_rounds
returns c =
    rw (
      c.store.ensures,
      c.unkeyed.ensures,
      c.keyed-c.ensures,
      c.load-4.ensures,
      c.keyed-b.ensures,
      c.load-3.ensures,
      c.keyed-a.ensures,
      c.load-2.ensures,
      c.load.ensures,
    )
