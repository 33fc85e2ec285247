-- What `array::from_fn` makes by a closure that gives f of each place, and stays as it is, is f's table.
-- Assumes nothing.
use Rattle.std.proofs.Common.{◌≡◌, refl, subst, ◌∙◌, List, ℕ, zero, suc, ◌+◌, ◌<◌, get_or, arith, zero-add}
use Rattle.std.specs.Array.{IsFromFnResult, IsFromFnResultFrom}
use denote.Param.Members.{Mut, Called}
use Rattle.laws.specs.Agree.{table}
use Rattle.laws.proofs.Agree.{is_table}

module _ {F B : Type 0} {g : Mut F (ℕ × Unit {0}) B} {p : F} (z : B) (f : ℕ → B) where
  made_at : (l : List B) (n : ℕ) → ((i : ℕ) (y : B) (q : F) → i < n → Called g p (i, tt) y q → (y ≡ f i) × (q ≡ p)) → (i k : ℕ)
      → i + k ≡ n → (q : F) → q ≡ p → IsFromFnResultFrom g q l i k → (j : ℕ) → j < k → get_or l (i + j) z ≡ f (i + j)
  made_at l n gives i zero e q s m j h = absurd (omega arith)
  made_at l n gives i (suc k) e q s m zero h =
      let at : i + 0 ≡ i = omega arith in
      let now = gives i m.1 m.0 (omega arith) (subst (λ (x : F). Called g x (i, tt) m.1 m.0) s m.3) in
      rw at (m.2.1 z ∙ now.0)
  made_at l n gives i (suc k) e q s m (suc j) h =
      let at : i + suc j ≡ i + 1 + j = omega arith in
      let now = gives i m.1 m.0 (omega arith) (subst (λ (x : F). Called g x (i, tt) m.1 m.0) s m.3) in
      rw at (made_at l n gives (i + 1) k (omega arith) m.0 now.1 m.4 j (omega arith))

  -- by `array::from_fn`: f 0, f 1, .., one for each place
  pub made_table : {l : List B} {n : ℕ} → IsFromFnResult g p l n
      → ((i : ℕ) (y : B) (q : F) → i < n → Called g p (i, tt) y q → (y ≡ f i) × (q ≡ p)) → l ≡ table f n
  made_table {l} {n} m gives = is_table z f l n m.long (λ i b. rw zero-add at (made_at l n gives 0 n (omega arith) p refl m.each i b))
