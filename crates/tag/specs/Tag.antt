-- A tag of p bits as bytes.
-- Assumes nothing.
use Rattle.std.specs.Prelude.{ℕ}
use Rattle.laws.specs.Up.{up}

-- how many bytes a tag of p bits occupies: p / 8, rounded up
abbrev pub tag_bytes : ℕ → ℕ
tag_bytes p = up p 8
