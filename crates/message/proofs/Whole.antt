-- A whole message through the engine: the chain of Algorithm 2.2 before the last block, the last block, and the tag.
-- Assumes nothing.
use Rattle.std.proofs.Common.{◌≡◌, ap, ap₂, sym, ◌∙◌, List, ℕ, ◌+◌, ◌-◌, ◌*◌, ◌/◌, ◌≤◌, ◌<◌, arith, length, take, drop, length-drop}
use Rattle.std.proofs.Common.{take-append-drop, length-take-le}
use Rattle.laws.specs.Up.{up}
use Rattle.laws.proofs.Up.{up_most}
use Rattle.block.specs.Block.{Block, zeros, blocks, block_of, sixteen}
use Rattle.block.proofs.Blocks.{block_front, block_last, last_some, last_most}
use Rattle.block.proofs.Sixteen.{sixteen_front}
use Rattle.chain.specs.declared.Chain.{Chain}
use Rattle.chain.specs.Walk.{Step, begun, walk}
use Rattle.chain.specs.Stream.{after}
use Rattle.chain.proofs.Walk.{walk_blocks}
use Rattle.chain.proofs.Count.{closed}
use Rattle.pcmac.specs.Limits.{message_limit}
use Rattle.pcmac.specs.Taggen.{Keys, step_of, chained, taggen}
use Rattle.keys.specs.declared.KeySet.{KeySet}
use Rattle.keys.specs.KeysIn.{keys_in}
use Rattle.engine.specs.Engine.{chain_step, walked, absorbed, sealed_by}
use Rattle.engine.proofs.Room.{Room, room_roomy, absorbed_room}
use Rattle.engine.proofs.Together.{engine_step}
use Rattle.tag.specs.Inner.{Sealed}
use Rattle.tag.proofs.Answered.{sealed_by_is}
use Rattle.message.specs.Answer.{tagged}

-- where the last block begins
pub last_at : (n : ℕ) → 16 * ((n - 1) / 16) ≡ 16 * (blocks n - 1)
unfolding blocks
last_at n = omega arith

-- the blocks before the last, absorbed from the start, are the chain of Algorithm 2.2
pub message_chained : (k : KeySet) (M : List ℕ) {e : ℕ} {c : Chain} → e ≡ 16 * (blocks (length M) - 1)
    → c ≡ absorbed k.order k.round k.subkeys 0 begun (take e M) → c ≡ chained (keys_in k) k.order M
unfolding chained walked blocks
message_chained k M {e} {c} h ec =
    let d = k.order in
    let f = chain_step k.round k.subkeys in
    let m = up (length M) 16 - 1 in
    let room : Room begun = record { wholes = omega arith; fours = omega arith } in
    let size : length (take e M) ≡ e = length-take-le e M (omega arith) in
    let number : length (take e M) / 16 ≡ m = omega arith in
    let same : (j : ℕ) → 1 ≤ j → j < 1 + m → after 0 (take e M) j ≡ block_of M j =
    λ j l b.
    let z : j - 0 ≡ j = omega arith in
    ap (block_of (take e M)) z ∙ sym (block_front (take e M) (drop e M) j l (omega arith))
    ∙ ap (λ (x : List ℕ). block_of x j) (take-append-drop e M) in
    ec ∙ absorbed_room d k.round k.subkeys 0 begun (take e M) (room_roomy begun room)
    ∙ ap (λ (n : ℕ). walk d f (after 0 (take e M)) 1 n begun) number
    ∙ walk_blocks d f (after 0 (take e M)) (block_of M) 1 m begun same
    ∙ ap (λ (g : Step). walk d g (block_of M) 1 m begun) (engine_step k)

-- the bytes behind them are the last block
pub message_last : (M : List ℕ) {e : ℕ} {x : Block} → e ≡ 16 * (blocks (length M) - 1) → x ≡ sixteen (drop e M)
    → take (length M - e) x ≡ block_of M (blocks (length M))
message_last M {e} {x} h ex =
    let last : drop e M ≡ block_of M (blocks (length M)) = rw h (sym (block_last M)) in
    let n : length M - e ≡ length (drop e M) = sym (length-drop e M) in
    let most : length (drop e M) ≤ 16 = rw last (last_most M) in
    rw (n, ex) (sixteen_front (drop e M) most ∙ last)

-- the counts before the last block have room
chained_room : (k : Keys) (d : ℕ) (M : List ℕ) → length M ≤ message_limit → Room (chained k d M)
unfolding chained blocks
chained_room k d M h =
    let c = closed d (step_of k) M in
    let most = up_most d (up (length M) 16 - 1) in
    record { wholes = omega (arith, c.whole_is); fours = omega (arith, c.four_is) }

-- where there is one block the chain is as it began
fresh : (k : Keys) (d : ℕ) (M : List ℕ) → blocks (length M) ≡ 1 → (chained k d M).value ≡ zeros
unfolding chained walk
fresh k d M e = rw e

-- sealed from what the engine hands back, they are the message's tag and counts
pub message_sealed : (k : KeySet) (M : List ℕ) {r c : Chain} {last : List ℕ} → 1 ≤ length M → length M ≤ message_limit
    → r ≡ sealed_by k.round k.full k.short c last → c ≡ chained (keys_in k) k.order M
    → last ≡ block_of M (blocks (length M)) → Sealed k.bits (tagged k M) r
unfolding tagged taggen
message_sealed k M some fits er ec el =
    let c = chained (keys_in k) k.order M in
    let last = block_of M (blocks (length M)) in
    let e = er ∙ ap₂ (λ (x : Chain) (y : List ℕ). sealed_by k.round k.full k.short x y) ec el in
    let room = chained_room (keys_in k) k.order M fits in
    sealed_by_is k c last room k.bits (blocks (length M)) e (last_some M some) (last_most M) (fresh (keys_in k) k.order M)
