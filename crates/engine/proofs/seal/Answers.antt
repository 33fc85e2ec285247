-- `engine::seal` meets its contract. By the room that the counts have.
-- Assumes nothing.
use mathlib.Core.Path.{sym, ◌∙◌}
use native.Mathlib.Omega.{arith}
use Rattle.laws.proofs.Cases.{test_fails, test_holds}
use Rattle.engine.proofs.Room.{room_is, sealed_room, sealed_not, sealing_is}
use Rattle.engine.proofs.seal.Goals as goal

pub returns-then-not-has_room : goal.returns-then-not-has_room
returns-then-not-has_room c = sym (sealed_not _ _ _ _ _ (test_fails c.has_room.ensures c.if-not-has_room.true))

pub overflow_add-result : goal.overflow_add-result
overflow_add-result c =
    record { fits = omega (arith, (room_is _ (test_holds c.has_room.ensures c.if-not-has_room.false)).wholes) }

pub returns : goal.returns
returns c =
    sealing_is _ _ _ _ _ _ _ c.closing.ensures c.encrypt_block-value.ensures
    ∙ sym (sealed_room _ _ _ _ _ (test_holds c.has_room.ensures c.if-not-has_room.false))
