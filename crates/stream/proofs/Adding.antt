-- A well-formed stream with a part more, as code puts it together.
-- Assumes nothing.
use Rattle.std.proofs.Common.{◌≡◌, refl, ap, sym, ◌∙◌, List, ◌++◌, ℕ, ◌+◌, ◌-◌, ◌*◌, ◌/◌, ◌≤◌, ◌<◌, arith, length, take, drop}
use Rattle.std.proofs.Common.{length-drop, length-take-le}
use Rattle.std.proofs.Math.Seq.{take-append-add}
use Rattle.block.specs.Block.{Block, sixteen}
use Rattle.block.proofs.Sixteen.{sixteen_long}
use Rattle.chain.specs.declared.Chain.{Chain}
use Rattle.chain.specs.Walk.{Step, walk}
use Rattle.chain.specs.Stream.{settled, after}
use Rattle.chain.proofs.Count.{walk_raised}
use Rattle.chain.proofs.Parts.{add_room, add_over}
use Rattle.engine.specs.Engine.{chain_step, walked, absorbed}
use Rattle.engine.proofs.Room.{Room, room_roomy, absorbed_room}
use Rattle.judge.specs.declared.Stream.{Stream}
use Rattle.judge.specs.Stream.{chain_of, held_of, view_of, stream_of}
use Rattle.judge.proofs.Formed.{Formed}
use Rattle.judge.proofs.Faultless.{formed_few}
use Rattle.judge.proofs.Held.{Fine, held_count, joined_count}
use Rattle.stream.specs.Answer.{added_to}

-- a part raises the total by its bytes
pub added_total : (d : ℕ) (f : Step) (s : Stream) (p : List ℕ) → (added_to d f s p).total ≡ s.total + length p
unfolding added_to stream_of
added_total d f s p = refl

module _ (d : ℕ) (f : Step) (s : Stream) (p : List ℕ) (fine : Fine d s) where
  -- held bytes and part make no more than a block
  pub added_room : (h : Block) → s.count + length p ≤ 16 → h ≡ sixteen (held_of s ++ p)
      → record {
        total = s.total + length p;
        value = s.value;
        held = h;
        count = s.count + length p;
        whole = s.whole;
        four = s.four;
      }
      ≡ added_to d f s p
  unfolding added_to stream_of view_of
  added_room h room e =
      let q = add_room d f (view_of s) p (omega (arith, held_count fine)) in
      (λ i.
      record {
        total = s.total + length p;
        value = s.value;
        held = e i;
        count = sym (joined_count fine p) i;
        whole = s.whole;
        four = s.four;
      })
      ∙ sym (ap (stream_of (s.total + length p)) q)

  -- the first block: the held bytes and as many of the part as fill them up
  first_filled : (a : ℕ) → s.count + a ≡ 16 → a ≤ length p → sixteen (held_of s ++ p) ≡ held_of s ++ take a p
  first_filled a h l =
      let e : length (held_of s) + a ≡ 16 = omega (arith, held_count fine) in
      sixteen_long (held_of s ++ p) (omega (arith, joined_count fine p))
      ∙ ap (λ (n : ℕ). take n (held_of s ++ p)) (sym e) ∙ take-append-add (held_of s) p a

  -- they make more: a bytes of the part fill up the held block, k whole blocks follow, and the rest is held
  pub added_over : (a k n : ℕ) {first middle h : List ℕ} {c₀ c : Chain} → s.count + a ≡ 16 → a + 16 * k < length p
      → length p ≤ a + 16 * k + 16 → n ≡ settled s.total → first ≡ sixteen (held_of s ++ p)
      → middle ≡ take (a + 16 * k - a) (drop a p) → h ≡ sixteen (drop (a + 16 * k) p)
      → c
      ≡ walk d f (after (n + 1) middle) (n + 1 + 1) (length middle / 16)
      (walk d f (after n first) (n + 1) 1 c₀)
      → c₀ ≡ chain_of s
      → record {
        total = s.total + length p;
        value = c.value;
        held = h;
        count = length p - (a + 16 * k);
        whole = c.whole;
        four = c.four;
      }
      ≡ added_to d f s p
  unfolding added_to stream_of view_of
  added_over a k n {first} {middle} {h} {c₀} {c} fill l m en ef em eh ec e₀ =
      let q = add_over d f (view_of s) p a k (omega (arith, held_count fine)) l m in
      let size : length (take (16 * k) (drop a p)) ≡ 16 * k =
      length-take-le (16 * k) (drop a p) (rw length-drop (omega arith)) in
      let part : a + 16 * k - a ≡ 16 * k = omega arith in
      let blocks : length middle / 16 ≡ k = rw (em, part) (omega arith) in
      let is : c
      ≡ walk d f (after (settled s.total + 1) (take (16 * k) (drop a p))) (settled s.total + 1 + 1) k
      (walk d f (after (settled s.total) (held_of s ++ take a p)) (settled s.total + 1) 1 (chain_of s)) =
      ec ∙ rw (blocks, em, part, ef, en, e₀, first_filled a fill (omega arith)) in
      let left : length p - (a + 16 * k) ≡ length (drop (a + 16 * k) p) = sym (length-drop (a + 16 * k) p) in
      (λ i.
      record {
        total = s.total + length p;
        value = (is i).value;
        held = eh i;
        count = left i;
        whole = (is i).whole;
        four = (is i).four;
      })
      ∙ sym (ap (stream_of (s.total + length p)) q)

-- a block and then a part, absorbed one after the other
module _ (d : ℕ) (round subkeys : List ℕ) (done : ℕ) (c : Chain) (first part : List ℕ) where
  pub then_taken : {c₁ c₂ : Chain} → length first ≡ 16 → (c.whole ≤ 1048576) × (c.four ≤ 1048576) × (done ≤ 1048576)
      → c₁ ≡ absorbed d round subkeys done c first → c₂ ≡ absorbed d round subkeys (done + 1) c₁ part
      → c₂
      ≡ walk d (chain_step round subkeys) (after (done + 1) part) (done + 1 + 1) (length part / 16)
      (walk d (chain_step round subkeys) (after done first) (done + 1) 1 c)
  unfolding walked
  then_taken {c₁} {c₂} size h e₁ e₂ =
      let f = chain_step round subkeys in
      let room : Room c = record { wholes = omega (arith, h.0); fours = omega (arith, h.1) } in
      let one : length first / 16 ≡ 1 = omega arith in
      let is₁ : c₁ ≡ walk d f (after done first) (done + 1) 1 c =
      e₁ ∙ absorbed_room d round subkeys done c first (room_roomy c room)
      ∙ ap (λ (n : ℕ). walk d f (after done first) (done + 1) n c) one in
      let raised = walk_raised d f (after done first) (done + 1) 1 c in
      let room₁ : Room c₁ =
      rw is₁ (record { wholes = omega (arith, h.0, raised.whole_most); fours = omega (arith, h.1, raised.four_most) }) in
      e₂ ∙ absorbed_room d round subkeys (done + 1) c₁ part (room_roomy c₁ room₁)
      ∙ ap (walk d f (after (done + 1) part) (done + 1 + 1) (length part / 16)) is₁

-- what is asked of the chain of a well-formed stream, and of the number of its blocks settled
pub chain_few : (d : ℕ) (s : Stream) → Formed d s → {c : Chain} → c ≡ chain_of s
    → (c.whole ≤ 1048576) × (c.four ≤ 1048576) × ((s.total - s.count) / 16 ≤ 1048576)
chain_few d s f e =
    let few = formed_few d s f in (
      rw e (omega (arith, few.wholes_few)),
      rw e (omega (arith, few.fours_few)),
      omega (arith, f.most.size),
    )
