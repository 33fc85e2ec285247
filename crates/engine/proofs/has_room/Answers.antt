-- `engine::has_room` meets its contract. By the whole-cipher steps first.
-- Assumes nothing.
use Rattle.std.proofs.Common.{rules}
use Rattle.engine.proofs.Room.{roomy_not, roomy_fours}
use Rattle.engine.proofs.has_room.Goals as goal

pub returns-then-c-le-COUNT_LIMIT : goal.returns-then-c-le-COUNT_LIMIT
returns-then-c-le-COUNT_LIMIT c = roomy_fours _ (search rules)

pub returns-else-c-le-COUNT_LIMIT : goal.returns-else-c-le-COUNT_LIMIT
returns-else-c-le-COUNT_LIMIT c = roomy_not _ (search rules)
