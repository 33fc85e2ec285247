-- What KEYSCH makes: each subkey from its counter, zeros beyond the order, and 4d - 1 steps.
-- Assumes nothing.
use mathlib.Core.Path.{◌≡◌, refl, ap, ◌∙◌}
use mathlib.Core.List.{List, [], ◌∷◌, ◌++◌}
use Prim.Native.Nat.{ℕ, zero, suc, ◌+◌, ◌-◌, ◌*◌, ◌≤◌, ◌<◌}
use native.Mathlib.Omega.{arith}
use lib.ListN.{length, get_or, get_or-eq_default}
use Rattle.laws.specs.Agree.{table}
use Rattle.laws.proofs.Agree.{table_entry, table_length, table_more}
use Rattle.block.specs.Block.{Block, zeros, ◌⊕◌, numbered}
use Rattle.pcmac.specs.Functions.{E}
use Rattle.pcmac.specs.Keysch.{U, X, take_u, take_x, first_loop, second_loop, KEYSCH}

-- E of L ⊕ [i]
abbrev pub made : (Block → Block) → Block → ℕ → Block
made e L i = e (L ⊕ numbered i)

-- the three parts of U_i
abbrev pub parts : (Block → Block) → Block → ℕ → List Block
parts e L i = made e L (3 * (i - 1)) ∷ made e L (3 * (i - 1) + 1) ∷ made e L (3 * (i - 1) + 2) ∷ []

module _ (e : Block → Block) (L : Block) where
  first_us : (n : ℕ) → (first_loop e L n).us ≡ table (λ i. parts e L (suc i)) n
  unfolding first_loop take_u
  first_us zero = refl
  first_us (suc n) =
      rw (table_more (λ i. parts e L (suc i)) n)
      (ap (λ (l : List (List Block)). l ++ (parts e L (suc n) ∷ [])) (first_us n))

  first_steps : (n : ℕ) → (first_loop e L n).steps ≡ 3 * n
  unfolding first_loop take_u
  first_steps zero = refl
  first_steps (suc n) = let h = first_steps n in omega arith

  first_xs : (n : ℕ) → (first_loop e L n).xs ≡ []
  unfolding first_loop take_u
  first_xs zero = refl
  first_xs (suc n) = first_xs n

  second_us : (d n : ℕ) → (second_loop e L d n).us ≡ table (λ i. parts e L (suc i)) d
  unfolding second_loop take_x
  second_us d zero = first_us d
  second_us d (suc n) = second_us d n

  second_xs : (d n : ℕ) → (second_loop e L d n).xs ≡ table (λ j. made e L (3 * d + suc j - 1)) n
  unfolding second_loop take_x
  second_xs d zero = first_xs d
  second_xs d (suc n) =
      rw (table_more (λ j. made e L (3 * d + suc j - 1)) n)
      (ap (λ (l : List Block). l ++ (made e L (3 * d + suc n - 1) ∷ [])) (second_xs d n))

  second_steps : (d n : ℕ) → (second_loop e L d n).steps ≡ 3 * d + n
  unfolding second_loop take_x
  second_steps d zero = let h = first_steps d in omega arith
  second_steps d (suc n) = let h = second_steps d n in omega arith

-- entry j of the parts, from 0, is made from the counter 3(i - 1) + j
parts_at : (e : Block → Block) (L : Block) (i j : ℕ) → j < 3 → get_or (parts e L i) j zeros ≡ made e L (3 * (i - 1) + j)
parts_at e L i zero h = ap (made e L) (omega arith)
parts_at e L i (suc zero) h = refl
parts_at e L i (suc (suc zero)) h = refl
parts_at e L i (suc (suc (suc j))) h = absurd (omega arith)

module _ (d : ℕ) (K L : Block) where
  -- U_i^(j) is made from the counter 3(i - 1) + j - 1
  pub keysch_u : (i j : ℕ) → 1 ≤ i → i ≤ d → 1 ≤ j → j ≤ 3
      → U (KEYSCH d K L) i j ≡ made (E K) L (3 * (i - 1) + (j - 1))
  unfolding KEYSCH
  keysch_u i j a b c h =
      let s : suc (i - 1) ≡ i = omega arith in
      ap (λ (l : List (List Block)). get_or (get_or l (i - 1) []) (j - 1) zeros) (second_us (E K) L d (d - 1))
      ∙ ap (λ (l : List Block). get_or l (j - 1) zeros) (table_entry [] (λ n. parts (E K) L (suc n)) d (i - 1) (omega arith))
      ∙ rw s (parts_at (E K) L i (j - 1) (omega arith))

  -- beyond the order there is none
  pub keysch_u_none : (i j : ℕ) → d < i → U (KEYSCH d K L) i j ≡ zeros
  unfolding KEYSCH
  keysch_u_none i j h =
      let n : length (KEYSCH d K L).us ≡ d =
      ap length (second_us (E K) L d (d - 1)) ∙ table_length (λ i. parts (E K) L (suc i)) d in
      ap (λ (l : List Block). get_or l (j - 1) zeros) (get_or-eq_default (KEYSCH d K L).us [] (omega arith))

  -- K_j^xor is made from the counter 3d + j - 1
  pub keysch_x : (j : ℕ) → 1 ≤ j → j < d → X (KEYSCH d K L) j ≡ made (E K) L (3 * d + (j - 1))
  unfolding KEYSCH
  keysch_x j a b =
      let s : 3 * d + suc (j - 1) - 1 ≡ 3 * d + (j - 1) = omega arith in
      ap (λ (l : List Block). get_or l (j - 1) zeros) (second_xs (E K) L d (d - 1))
      ∙ table_entry zeros (λ n. made (E K) L (3 * d + suc n - 1)) (d - 1) (j - 1) (omega arith)
      ∙ ap (made (E K) L) s

  pub keysch_x_none : (j : ℕ) → 1 ≤ j → d ≤ j → X (KEYSCH d K L) j ≡ zeros
  unfolding KEYSCH
  keysch_x_none j a h =
      let n : length (KEYSCH d K L).xs ≡ d - 1 =
      ap length (second_xs (E K) L d (d - 1)) ∙ table_length (λ j. made (E K) L (3 * d + suc j - 1)) (d - 1) in
      get_or-eq_default (KEYSCH d K L).xs zeros (omega arith)

  -- the steps taken: 4d - 1
  pub keysch_steps : 1 ≤ d → (KEYSCH d K L).steps ≡ 4 * d - 1
  unfolding KEYSCH
  keysch_steps h = second_steps (E K) L d (d - 1) ∙ omega arith
