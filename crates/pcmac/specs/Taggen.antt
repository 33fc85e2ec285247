-- The tag of PC-MAC-AES: NEC's specification, section 2.5, Algorithm 2.2. p is the document's π. Where the prose of 2.5 differs, the
-- algorithm decides: the cycle goes on for as long as there are blocks (the prose lists its functions for i = 1 to d), and the x_m of
-- the prose's formula is M_m. A message has at least one byte: the document leaves the empty one undefined (2.3, note 1), and no tag
-- of it is used.
-- Assumes nothing.
use Rattle.std.specs.Prelude.{List, ℕ, ◌+◌, ◌-◌, ◌%◌, eqb, length}
use Rattle.laws.specs.Pick.{pick}
use Rattle.block.specs.Bits.{bits}
use Rattle.block.specs.Block.{Block, ◌⊕◌, mul2, padded, cut, blocks, block_of}
use Rattle.chain.specs.declared.Chain.{Chain}
use Rattle.chain.specs.Walk.{Step, begun, walk}
use Rattle.pcmac.specs.Functions.{E, G}
use Rattle.pcmac.specs.Keysch.{U, X, KEYSCH}

-- the keys that Algorithm 2.2 works with: E_K, the parts U_i^(j), the auxiliary keys K_j^xor, mul2(L) and mul2(mul2(L))
pub record Keys : Type 0 where
  pub whole : Block → Block
  pub u : ℕ → ℕ → Block
  pub x : ℕ → Block
  pub full : Block
  pub short : Block

-- those of K and L: E is the cipher of FIPS 197 under K, the subkeys are KEYSCH's
unfoldable pub keys_of : ℕ → Block → Block → Keys
keys_of d K L = record {
  whole = E K;
  u = U (KEYSCH d K L);
  x = X (KEYSCH d K L);
  full = mul2 L;
  short = mul2 (mul2 L);
}

-- the body of the loop: w = 0 gives E_K(s ⊕ M_i), w = 1 gives G_(U_1)(s ⊕ M_i), and otherwise G_(U_w)(s ⊕ K_(w-1)^xor ⊕ M_i)
unfoldable pub step : (Block → Block) → (ℕ → ℕ → Block) → (ℕ → Block) → Step
step e u x w s b =
    pick (eqb w 0) (e (s ⊕ b)) (pick (eqb w 1) (G (u 1) (s ⊕ b)) (G (u w) (s ⊕ x (w - 1) ⊕ b)))

-- the step under these keys
abbrev pub step_of : Keys → Step
step_of k = step k.whole k.u k.x

-- s ← 0^128; for i ← 1 to m - 1: the chain before the last block, with the steps taken
unfoldable pub chained : Keys → ℕ → List ℕ → Chain
chained k d M = walk d (step_of k) (block_of M) 1 (blocks (length M) - 1) begun

-- h: pad(M_1) where m = 1, otherwise s ⊕ pad(M_m)
unfoldable pub hashed : ℕ → Block → List ℕ → Block
hashed m s last = pick (eqb m 1) (padded last) (s ⊕ padded last)

-- mul2(L) ⊕ h where |M_m| mod 128 = 0, otherwise mul2(mul2(L)) ⊕ h. (0 bits would count as full: see above)
unfoldable pub masked : Keys → List ℕ → Block → Block
masked k last h = pick (eqb (length (bits last) % 128) 0) (k.full ⊕ h) (k.short ⊕ h)

-- the tag's bits, and the steps of each kind that were taken for it
pub record Tagged : Type 0 where
  pub tag : List ℕ
  pub whole : ℕ
  pub four : ℕ

-- T ← cut_p(E_K(h)), one more whole-cipher step, from the chain before the last block
unfoldable pub sealed : Keys → ℕ → ℕ → Chain → List ℕ → Tagged
sealed k p m c last = record {
  tag = cut p (k.whole (masked k last (hashed m c.value last)));
  whole = c.whole + 1;
  four = c.four;
}

-- Algorithm 2.2 under any keys
unfoldable pub taggen : Keys → ℕ → ℕ → List ℕ → Tagged
taggen k d p M = sealed k p (blocks (length M)) (chained k d M) (block_of M (blocks (length M)))

-- Algorithm 2.2: TAGGEN(d, p, K, L, M)
unfoldable pub TAGGEN : ℕ → ℕ → Block → Block → List ℕ → List ℕ
TAGGEN d p K L M = (taggen (keys_of d K L) d p M).tag
