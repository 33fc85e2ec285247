-- A run of whole blocks: from its start, by one block more, to its end.
-- Assumes nothing.
use Rattle.std.proofs.Common.{◌≡◌, refl, ap, sym, ◌∙◌, List, [], ℕ, zero, suc, ◌+◌, ◌-◌, ◌*◌, ◌/◌, ◌%◌, ◌≤◌, ◌<◌, arith, length, get_or}
use Rattle.std.proofs.Common.{take, drop, mod-lt, drop-drop}
use native.Mathlib.Nat.{mod-add-mod}
use Rattle.std.specs.Simd.{first_chunks}
use Rattle.block.specs.Block.{block_of}
use Rattle.chain.specs.declared.Chain.{Chain}
use Rattle.chain.specs.Stream.{after}
use Rattle.chain.specs.Walk.{Step, stepped, place, walk}
use Rattle.chain.proofs.Walk.{walk_more, place_after}
use Rattle.chain.proofs.Count.{walk_raised}
use Rattle.engine.specs.Engine.{count_limit}
use Rattle.engine.proofs.Room.{Room}

-- the first i whole blocks of the part are taken, and w is the place of the next
pub record Walking (d : ℕ) (f : Step) (done : ℕ) (c : Chain) (part : List ℕ) (r : Chain) (w i : ℕ) : Type 0 where
  pub is : r ≡ walk d f (after done part) (done + 1) i c
  pub at : w ≡ (done + i) % (d + 1)
  pub most : i ≤ length part / 16
  pub room : Room c

module _ (d : ℕ) (f : Step) where
  pub walking_none : (done : ℕ) (c : Chain) (part : List ℕ) → Room c → Walking d f done c part c (done % (d + 1)) 0
  unfolding walk
  walking_none done c part h =
      let e : done + 0 ≡ done = omega arith in
      record { is = refl; at = rw e; most = omega arith; room = h }

-- the place is one of the cycle's
pub walking_place : {d done w i : ℕ} {f : Step} {c r : Chain} {part : List ℕ} → Walking d f done c part r w i → w ≤ d
walking_place {d} {done} {w} {i} s = let h : (done + i) % (d + 1) < d + 1 = mod-lt (done + i) (omega arith) in omega (arith, s.at)

-- neither count is above half of what it can hold by more than the blocks taken
pub walking_room : {d done w i : ℕ} {f : Step} {c r : Chain} {part : List ℕ} → Walking d f done c part r w i
    → (r.whole ≤ count_limit + i) × (r.four ≤ count_limit + i)
walking_room {d} {done} {w} {i} {f} {c} {r} {part} s =
    let g = walk_raised d f (after done part) (done + 1) i c in
    rw s.is (omega (arith, s.room.wholes, g.whole_most), omega (arith, s.room.fours, g.four_most))

-- the chunks of a part are its blocks
pub chunk_at : (k : ℕ) (part : List ℕ) (i : ℕ) → i < k → get_or (first_chunks 16 k part) i [] ≡ take 16 (drop (16 * i) part)
chunk_at zero part i h = absurd (omega arith)
chunk_at (suc k) part zero h = refl
chunk_at (suc k) part (suc i) h =
    let e : 16 + 16 * i ≡ 16 * suc i = omega arith in
    chunk_at k (drop 16 part) i (omega arith) ∙ ap (take 16) (drop-drop (16 * i) 16 part ∙ ap (λ (n : ℕ). drop n part) e)

-- block done + 1 + i of the message is the part's from byte 16 i on
block_number : (done i : ℕ) (part : List ℕ) → after done part (done + 1 + i) ≡ take 16 (drop (16 * i) part)
unfolding block_of
block_number done i part = let e : done + 1 + i - done - 1 ≡ i = omega arith in rw e

pub walking_more : {d done w w' i : ℕ} {f : Step} {c r r' : Chain} {part b : List ℕ} → Walking d f done c part r w i
    → i < length part / 16 → b ≡ take 16 (drop (16 * i) part) → r' ≡ stepped f w b r → w' ≡ (w + 1) % (d + 1)
    → Walking d f done c part r' w' (i + 1)
walking_more {d} {done} {w} {w'} {i} {f} {c} {r} {r'} {part} {b} s h eb er ew =
    let q : done + 1 + i ≡ done + i + 1 = omega arith in
    let p : place d (done + 1 + i) ≡ (done + i) % (d + 1) = ap (place d) q ∙ place_after d (done + i) in
    let n : done + i + 1 ≡ done + (i + 1) = omega arith in
    record {
      is =
          er ∙ rw (s.is, s.at, eb)
          (sym (walk_more d f (after done part) (done + 1) i c ∙ rw (p, block_number done i part)));
      at = ew ∙ rw (s.at, mod-add-mod (done + i) (d + 1) 1, n);
      most = omega arith;
      room = s.room;
    }

pub walking_all : {d done w i : ℕ} {f : Step} {c r : Chain} {part : List ℕ} → Walking d f done c part r w i
    → length part / 16 ≤ i → r ≡ walk d f (after done part) (done + 1) (length part / 16) c
walking_all {d} {done} {w} {i} {f} {c} {r} {part} s h = let e : i ≡ length part / 16 = omega (arith, s.most) in s.is ∙ rw e
