-- The key schedule of PC-MAC-AES: NEC's specification, section 2.4, Algorithm 2.1.
-- Assumes nothing.
use Rattle.std.specs.Prelude.{List, [], ◌∷◌, ◌++◌, ℕ, zero, suc, ◌+◌, ◌-◌, ◌*◌, get_or}
use Rattle.block.specs.Block.{Block, zeros, ◌⊕◌, numbered}
use Rattle.pcmac.specs.Functions.{E}

-- what KEYSCH has made so far: U_1, U_2, .., each as its three parts; the auxiliary keys K_1^xor, K_2^xor, ..; and how many steps
-- of E it took
pub record Subkeys : Type 0 where
  pub us : List (List Block)
  pub xs : List Block
  pub steps : ℕ

-- U_i^(j), for i and j from 1; zeros beyond the last
abbrev pub U : Subkeys → ℕ → ℕ → Block
U k i j = get_or (get_or k.us (i - 1) []) (j - 1) zeros

-- K_j^xor, for j from 1; zeros beyond the last
abbrev pub X : Subkeys → ℕ → Block
X k j = get_or k.xs (j - 1) zeros

-- before the first step
abbrev pub none : Subkeys
none = record { us = []; xs = []; steps = 0 }

-- the first loop's body: the three parts of U_i from the counters 3(i - 1), 3(i - 1) + 1 and 3(i - 1) + 2, a step each
unfoldable pub take_u : (Block → Block) → Block → ℕ → Subkeys → Subkeys
take_u e L i k = record {
  us =
      k.us
      ++ ((
      e (L ⊕ numbered (3 * (i - 1)))
      ∷ e (L ⊕ numbered (3 * (i - 1) + 1))
      ∷ e (L ⊕ numbered (3 * (i - 1) + 2))
      ∷ []
      ) ∷ []);
  xs = k.xs;
  steps = k.steps + 1 + 1 + 1;
}

-- the second loop's body: K_j^xor from the counter 3d + j - 1, a step
unfoldable pub take_x : (Block → Block) → Block → ℕ → ℕ → Subkeys → Subkeys
take_x e L d j k = record { us = k.us; xs = k.xs ++ (e (L ⊕ numbered (3 * d + j - 1)) ∷ []); steps = k.steps + 1 }

-- for i ← 1 to n
unfoldable pub first_loop : (Block → Block) → Block → ℕ → Subkeys
first_loop e L zero = none
first_loop e L (suc n) = take_u e L (suc n) (first_loop e L n)

-- for j ← 1 to n, after the first loop for the order d
unfoldable pub second_loop : (Block → Block) → Block → ℕ → ℕ → Subkeys
second_loop e L d zero = first_loop e L d
second_loop e L d (suc n) = take_x e L d (suc n) (second_loop e L d n)

-- Algorithm 2.1: KEYSCH(d, K, L)
unfoldable pub KEYSCH : ℕ → Block → Block → Subkeys
KEYSCH d K L = second_loop (E K) L d (d - 1)
