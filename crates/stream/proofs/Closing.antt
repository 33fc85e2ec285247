-- A well-formed stream of at least one byte, closed: from the engine's closing step, the tag and the counts of its definition.
-- Assumes nothing.
use Rattle.std.proofs.Common.{◌≡◌, ap, ◌∙◌, ℕ, ◌≤◌, arith, length, replicate}
use Rattle.block.specs.Block.{blocks, zeros}
use Rattle.chain.specs.declared.Chain.{Chain}
use Rattle.keys.specs.declared.KeySet.{KeySet}
use Rattle.engine.specs.Engine.{sealed_by}
use Rattle.engine.proofs.Room.{Room}
use Rattle.tag.specs.Inner.{Sealed}
use Rattle.tag.proofs.Answered.{sealed_by_is}
use Rattle.judge.specs.declared.Stream.{Stream}
use Rattle.judge.specs.Stream.{chain_of, held_of}
use Rattle.judge.proofs.Formed.{Formed}
use Rattle.judge.proofs.Faultless.{formed_few}
use Rattle.judge.proofs.Held.{Fine, formed_holds, held_count}
use Rattle.judge.proofs.Total.{total}
use Rattle.judge.proofs.Zeros.{zeros_are}
use Rattle.stream.specs.Answer.{closed}

-- its counts have room for any part
formed_room : (d : ℕ) (s : Stream) → Formed d s → Room (chain_of s)
formed_room d s f =
    let few = formed_few d s f in
    record { wholes = omega (arith, few.wholes_few); fours = omega (arith, few.fours_few) }

-- the chain value of one block or none is zeros
fresh_zeros : (d : ℕ) (s : Stream) → Formed d s → length s.value ≡ 16 → blocks s.total ≡ 1 → s.value ≡ zeros
unfolding blocks
fresh_zeros d s f z e =
    zeros_are s.value (f.fresh (omega arith)) ∙ ap (λ (n : ℕ). replicate n 0) z

pub closing_sealed : (k : KeySet) (s : Stream) {c₀ c : Chain} → c₀ ≡ chain_of s
    → c ≡ sealed_by k.round k.full k.short c₀ (held_of s) → Fine k.order s → length s.value ≡ 16 → 1 ≤ s.total
    → Sealed k.bits (closed k s) c
unfolding closed
closing_sealed k s q e fine v some =
    let f = fine.form in
    let n = held_count fine in
    let room = formed_room k.order s f in
    let least = (total s.total).some some in
    let is = e ∙ ap (λ (x : Chain). sealed_by k.round k.full k.short x (held_of s)) q in
    sealed_by_is k (chain_of s) (held_of s) room k.bits (blocks s.total) is (omega (arith, f.most.count))
    (omega (arith, (formed_holds k.order s f).most)) (fresh_zeros k.order s f v)
