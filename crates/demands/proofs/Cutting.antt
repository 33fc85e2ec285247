-- Parts added to a well-formed stream: one and then another are the two joined, none changes nothing, and it stays well formed.
-- Assumes nothing.
use Rattle.std.specs.Prelude.{◌≡◌, List, [], ◌++◌, ℕ, ◌+◌, ◌-◌, ◌*◌, ◌≤◌, length, take, drop, replicate}
use Rattle.std.proofs.Common.{ap, ap₂, sym, ◌∙◌, add-zero, arith, length-append, length-drop, take-append-drop}
use lib.Seq.{drop-append_seam}
use Rattle.block.specs.Block.{blocks, sixteen}
use Rattle.block.proofs.Sixteen.{sixteen_length, sixteen_short, sixteen_front}
use Rattle.chain.specs.Walk.{Step, walk}
use Rattle.chain.specs.Stream.{State, settled, after, add}
use Rattle.chain.proofs.Cut.{cut, add_none, held_most}
use Rattle.chain.proofs.Count.{Counted, counted_walk}
use Rattle.laws.proofs.Up.{up_most}
use Rattle.pcmac.specs.Limits.{message_limit}
use Rattle.judge.specs.declared.Stream.{Stream}
use Rattle.judge.specs.Stream.{chain_of, held_of, view_of, stream_of, held_for}
use Rattle.judge.proofs.Held.{Fine, held_count, joined_count}
use Rattle.judge.proofs.Total.{total, settled_is}
use Rattle.judge.proofs.Zeros.{zeros_are, are_zeros}
use Rattle.stream.specs.Answer.{added_to}

module _ {d : ℕ} {s : Stream} (fine : Fine d s) (f : Step) (p : List ℕ) where
  -- what is settled by the part
  more_settled : settled s.total + settled (length (held_of s ++ p)) ≡ settled (s.total + length p)
  more_settled =
      let c = fine.form.most.count in
      let t = total s.total in
      rw (joined_count fine p)
      (omega (arith, c, t.sum, settled_is s.total, settled_is (s.count + length p), settled_is (s.total + length p)))

  -- the state after the part is what the new stream stands for
  pub view_added : view_of (added_to d f s p) ≡ add d f (view_of s) p
  unfolding view_of added_to stream_of add
  view_added =
      let t = add d f (view_of s) p in
      let e : take (length t.held) (sixteen t.held) ≡ t.held = sixteen_front t.held (held_most d f (view_of s) p) in
      let n : settled (s.total + length p) ≡ t.done = sym more_settled in
      λ i. record { done = n i; chain = t.chain; held = e i }

  -- and then another
  pub added_again : (q : List ℕ) → added_to d f (added_to d f s p) q ≡ added_to d f s (p ++ q)
  unfolding added_to stream_of
  added_again q =
      let n : s.total + length p + length q ≡ s.total + length (p ++ q) = rw (length-append p q) (omega arith) in
      ap₂ stream_of n (ap (λ (t : State). add d f t q) view_added ∙ cut d f (view_of s) p q)

-- no bytes
pub added_none : {d : ℕ} {s : Stream} → Fine d s → (f : Step) → added_to d f s [] ≡ s
unfolding added_to stream_of view_of
added_none {d} {s} fine f =
    let n = held_count fine in
    let most = (total s.total).held_most in
    let c = fine.form.most.count in
    let e : add d f (view_of s) [] ≡ view_of s = add_none d f (view_of s) (omega arith) in
    let left : length (drop s.count s.held) ≡ 16 - length (held_of s) =
    length-drop s.count s.held ∙ omega (arith, fine.size) in
    let rest : drop s.count s.held ≡ replicate (16 - length (held_of s)) 0 =
    zeros_are (drop s.count s.held) fine.form.most.rest
    ∙ ap (λ (k : ℕ). replicate k 0) left in
    let h : sixteen (held_of s) ≡ s.held =
    sixteen_short (held_of s) (omega arith) ∙ ap (λ (l : List ℕ). held_of s ++ l) (sym rest) ∙ take-append-drop s.count s.held in
    ap₂ stream_of (add-zero s.total) e
    ∙ (λ i. record { total = s.total; value = s.value; held = h i; count = n i; whole = s.whole; four = s.four })

module _ {d : ℕ} {s : Stream} (fine : Fine d s) (f : Step) (p : List ℕ) (fits : s.total + length p ≤ message_limit) where
  -- the counts before, and after
  counted_before : Counted d (settled s.total) (chain_of s)
  unfolding settled
  counted_before =
      let w = fine.form.most.wholes in
      let m = up_most d (blocks s.total - 1) in
      record { steps = omega (arith, fine.form.most.fours); wholes = w }

  counted_after : Counted d (settled (s.total + length p)) (add d f (view_of s) p).chain
  unfolding add view_of
  counted_after =
      rw (more_settled fine f p) at
      (counted_walk d f (after (settled s.total) (held_of s ++ p)) (settled s.total) (settled (length (held_of s ++ p))) (chain_of s)
      counted_before)

  held_after : length (add d f (view_of s) p).held ≡ held_for (s.total + length p)
  unfolding add view_of
  held_after =
      let t = total s.total in
      let u = total (s.total + length p) in
      length-drop (16 * settled (length (held_of s ++ p))) (held_of s ++ p)
      ∙ rw (joined_count fine p)
      (omega (arith, fine.form.most.count, t.sum, u.sum, rw (joined_count fine p) at (more_settled fine f p)))

  -- while the total is at most 16 nothing is settled, and the chain value is as it was
  still : s.total + length p ≤ 16 → (add d f (view_of s) p).chain ≡ chain_of s
  unfolding add view_of walk
  still h =
      let e : settled (length (held_of s ++ p)) ≡ 0 =
      omega (arith, more_settled fine f p, settled_is (s.total + length p)) in
      rw e

  -- it stays well formed
  pub fine_added : Fine d (added_to d f s p)
  unfolding added_to stream_of settled
  fine_added =
      let t = add d f (view_of s) p in
      let most : length t.held ≤ 16 = held_most d f (view_of s) p in
      let c = counted_after in
      record {
        form = record {
          most = record {
            size = fits;
            count = held_after;
            rest =
                rw (sixteen_short t.held most, drop-append_seam t.held (replicate (16 - length t.held) 0))
                (are_zeros (16 - length t.held));
            wholes = c.wholes;
            fours = omega (arith, c.steps, c.wholes);
          };
          fresh = λ h. rw (still h) (fine.form.fresh (omega arith));
        };
        size = sixteen_length t.held;
      }
