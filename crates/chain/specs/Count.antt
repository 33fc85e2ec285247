-- The counts of a message of n bytes by closed formulas, m being its number of blocks: what the walk produces is proved to be these.
-- Assumes nothing.
use Rattle.std.specs.Prelude.{ℕ, ◌+◌, ◌-◌}
use Rattle.laws.specs.Up.{up}
use Rattle.block.specs.Block.{blocks}

-- whole-cipher steps on the blocks before the last: ⌈(m - 1) / (d + 1)⌉
abbrev pub whole_for : ℕ → ℕ → ℕ
whole_for d n = up (blocks n - 1) (d + 1)

-- four-round steps on them: m - 1 - ⌈(m - 1) / (d + 1)⌉
abbrev pub four_for : ℕ → ℕ → ℕ
four_for d n = blocks n - 1 - whole_for d n
