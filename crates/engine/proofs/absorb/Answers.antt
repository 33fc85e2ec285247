-- `engine::absorb` meets its contract. By the room that the counts have; after i turns the first i whole blocks are taken.
-- Assumes nothing.
use Rattle.std.proofs.Common.{rules, sym, ◌∙◌, ◌<◌, ◌≤◌, ◌/◌, ◌*◌, ◌≡◌, length, get_or, take, drop, [], arith}
use Rattle.engine.specs.Engine.{walked}
use Rattle.laws.proofs.Cases.{test_fails, test_holds}
use Rattle.engine.proofs.Room.{room_is, absorbed_room, absorbed_not}
use Rattle.engine.proofs.Walking.{walking_none, walking_room}
use Rattle.engine.proofs.Walking.{walking_more, walking_all, chunk_at}
use Rattle.engine.proofs.absorb.Goals as goal

pub returns-then-not-has_room : goal.returns-then-not-has_room
returns-then-not-has_room c = sym (absorbed_not _ _ _ _ _ _ (test_fails c.has_room.ensures c.if-not-has_room.true))

pub loop-b-init : goal.loop-b-init
loop-b-init c = (search rules, walking_none _ _ _ _ _ (room_is _ (test_holds c.has_room.ensures c.if-not-has_room.false)))

pub take_step-r-requires : goal.take_step-r-requires
take_step-r-requires c =
    let most = walking_room c.loop-b.invariant.1 in
    let end : c.loop-b.b-index ≤ length c.args.part.now / 16 = search rules in
    let fits : length c.args.part.now < 18446744073709551616 = search rules in
    (omega (arith, most.0), omega (arith, most.1))

pub loop-b-preserved : goal.loop-b-preserved
loop-b-preserved c =
    let v = c.loop-b.invariant in
    let part = c.args.part.now in
    let i = c.loop-b.b-index in
    let within : i < length part / 16 = search rules in
    let block : get_or c.as_chunks.result.0.now i [] ≡ take 16 (drop (16 * i) part) =
    rw c.as_chunks.ensures.front (chunk_at (length part / 16) part i within)
    in
    (v.0, walking_more v.1 within block c.take_step-r.ensures c.place_after-w.ensures)

pub returns : goal.returns
unfolding walked
returns c =
    walking_all c.loop-b.invariant.1 (search rules)
    ∙ sym (absorbed_room _ _ _ _ _ _ (test_holds c.has_room.ensures c.if-not-has_room.false))
