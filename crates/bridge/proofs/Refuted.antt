-- Wrong outcomes that the promise does not permit: a wrong program would be another walk.
-- Assumes nothing.
use mathlib.Core.Path.{◌≡◌, ap, ◌∙◌}
use mathlib.Core.List.{List}
use Prim.Native.Nat.{ℕ}
use lib.ListN.{length}
use denote.Ref.{Bor}
use Rattle.keys.specs.declared.KeySet.{KeySet}
use Rattle.frame.specs.Frame.{frame_answer}
use Rattle.frame.proofs.Opened.{opened_or_refused}
use Rattle.frame.proofs.Refuted.{always_the_table, always_the_frame, kept_elsewhere}
use Rattle.bridge.specs.Promise.{OpenOrKeepPromise}

module _ (k : KeySet) (frame table r : Bor (List ℕ)) (p : OpenOrKeepPromise k frame table r) where
  -- the table in force, always: also where the frame is accepted
  pub table_always : (frame.ref_ptr ≡ table.ref_ptr → ⊥) → (frame_answer k frame.now).number ≡ 0 → r.ref_ptr ≡ table.ref_ptr → ⊥
  table_always = always_the_table k frame table r p

  -- the frame, always: also where it is refused
  pub frame_always : (frame.ref_ptr ≡ table.ref_ptr → ⊥) → ((frame_answer k frame.now).number ≡ 0 → ⊥) → r.ref_ptr ≡ frame.ref_ptr → ⊥
  frame_always = always_the_frame k frame table r p

  -- a part of the table
  pub table_cut : ((frame_answer k frame.now).number ≡ 0 → ⊥) → (length r.now ≡ length table.now → ⊥) → ⊥
  table_cut h n = n (ap length (p.0 ∙ opened_or_refused k frame.now h table.now))

  -- bytes that lie elsewhere, as a copy does
  pub copied : (r.ref_ptr ≡ frame.ref_ptr → ⊥) → (r.ref_ptr ≡ table.ref_ptr → ⊥) → ⊥
  copied = kept_elsewhere k frame table r p
