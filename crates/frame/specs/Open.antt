-- What opening a frame hands back: which bytes, and where they lie. A place is that of the first byte in the caller's memory.
-- Assumes nothing.
use Rattle.std.specs.Prelude.{List, [], ℕ}
use Rattle.laws.specs.Pick.{pick}
use Rattle.keys.specs.declared.KeySet.{KeySet}
use Rattle.frame.specs.Frame.{body_of, accepts}

-- opening: the body where the frame is accepted, otherwise no bytes
unfoldable pub opened : KeySet → List ℕ → List ℕ
opened k frame = pick (accepts k frame) (body_of k frame) []

-- opening, or the table in force: the body where the frame is accepted, otherwise the whole table
unfoldable pub opened_or : KeySet → List ℕ → List ℕ → List ℕ
opened_or k frame table = pick (accepts k frame) (body_of k frame) table

-- and where that lies: at the frame's first byte, or at the table's
unfoldable pub opened_at : KeySet → List ℕ → ℕ × ℕ → ℕ × ℕ → ℕ × ℕ
opened_at k frame at-frame at_table = pick (accepts k frame) at-frame at_table
