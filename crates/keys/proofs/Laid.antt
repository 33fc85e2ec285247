-- A block copied over the bytes of its place.
-- Assumes nothing.
use Rattle.std.proofs.Common.{◌≡◌, sym, ap, ◌∙◌, List, ℕ, ◌+◌, ◌-◌, ◌*◌, ◌/◌, ◌%◌, ◌≤◌, ◌<◌, length, get_or, take, drop, arith, ⊎_elim}
use Rattle.std.proofs.Common.{length-append, length-drop, ext_get_or, length-take-le, eq-eqb, ne_eqb}
use Rattle.std.proofs.Math.ListN.{get_or-append}
use Rattle.std.proofs.lemmas.List.{get_or-take, get_or-drop, get_or-append_right}
use borrow.Rule.Slice.PartMut.{put_mid}
use Rattle.laws.proofs.Agree.{table_length, table_at}
use Rattle.laws.proofs.Cases.{below_or_not}
use Rattle.block.specs.Block.{Block}
use Rattle.keys.specs.Store.{laid_at, laid}

module _ (before : List ℕ) (n : ℕ) (block : Block) (size : length before ≡ 304) (sixteen : length block ≡ 16) (place : n < 19) where
  -- what stands before the place
  front : length (take (16 * n) before) ≡ 16 * n
  front = length-take-le (16 * n) before (omega arith)

  -- each byte, after a block is copied over the sixteen bytes of a place
  put_at : (i : ℕ) → i < 304 → get_or (put_mid (16 * n) 16 before block) i 0 ≡ laid_at before n block i
  put_at i h = ⊎_elim low (λ a. ⊎_elim (mid a) high (below_or_not i (16 * n + 16))) (below_or_not i (16 * n))
    where
      low : i < 16 * n → get_or (put_mid (16 * n) 16 before block) i 0 ≡ laid_at before n block i
      low a =
          let q : i / 16 ≡ n → ⊥ = λ z. omega arith in
          rw (ne_eqb (i / 16) n q)
          (get_or-append (take (16 * n) before) _ 0 i (omega (arith, front)) ∙ get_or-take (16 * n) before i 0 a)

      mid : 16 * n ≤ i → i < 16 * n + 16 → get_or (put_mid (16 * n) 16 before block) i 0 ≡ laid_at before n block i
      mid a b =
          let q : i / 16 ≡ n = omega arith in
          let p : i - 16 * n ≡ i % 16 = omega arith in
          rw (eq-eqb (i / 16) n q)
          (get_or-append_right (take (16 * n) before) _ (16 * n) i 0 front a ∙ get_or-append block _ 0 (i - 16 * n) (omega arith)
          ∙ ap (λ (x : ℕ). get_or block x 0) p)

      high : 16 * n + 16 ≤ i → get_or (put_mid (16 * n) 16 before block) i 0 ≡ laid_at before n block i
      high b =
          let q : i / 16 ≡ n → ⊥ = λ z. omega arith in
          let p : 16 * n + (16 + (i - 16 * n - 16)) ≡ i = omega arith in
          rw (ne_eqb (i / 16) n q)
          (get_or-append_right (take (16 * n) before) _ (16 * n) i 0 front (omega arith)
          ∙ get_or-append_right block _ 16 (i - 16 * n) 0 sixteen (omega arith)
          ∙ get_or-drop 16 (drop (16 * n) before) (i - 16 * n - 16) 0
          ∙ get_or-drop (16 * n) before (16 + (i - 16 * n - 16)) 0 ∙ ap (λ (x : ℕ). get_or before x 0) p)

  put_length : length (put_mid (16 * n) 16 before block) ≡ 304
  put_length =
      length-append (take (16 * n) before) _
      ∙ (let a = length-append block (drop 16 (drop (16 * n) before)) in
      let b = length-drop 16 (drop (16 * n) before) in
      let c = length-drop (16 * n) before in
      omega (arith, a, b, c, front))

  -- and all of them
  pub laid_put : {k : ℕ} {new : Block} → k ≡ 16 → new ≡ block → put_mid (16 * n) k before new ≡ laid before n block
  unfolding laid
  laid_put e f =
      rw (e, f)
      (ext_get_or 0 (put_mid (16 * n) 16 before block) (laid before n block)
      (put_length ∙ sym (table_length (laid_at before n block) 304))
      (λ i l.
      let h : i < 304 = omega (arith, put_length) in
      put_at i h ∙ sym (table_at (laid_at before n block) 304 i h)))
