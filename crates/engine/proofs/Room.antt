-- A run of blocks and the closing step by the room that the counts have.
-- Assumes nothing.
use Rattle.std.proofs.Common.{◌≡◌, ap, ◌∙◌, true, false, List, ℕ, ◌+◌, ◌≤◌, ◌<◌, arith, leb, length, take, length-take-le, take_all, le-leb}
use Rattle.std.proofs.Common.{leb-true, eq-eqb, ne_eqb}
use borrow.Author.Tests.{lt-leb}
use Rattle.laws.proofs.Both.{both_holds}
use Rattle.aes.specs.Cipher.{cipher}
use Rattle.block.specs.Block.{Block, ◌⊕◌, padded}
use Rattle.chain.specs.declared.Chain.{Chain}
use Rattle.engine.specs.Engine.{count_limit, roomy, walked, absorbed, closing, sealing, sealed_by}

-- neither count is above half of what it can hold
pub record Room (c : Chain) : Type 0 where
  pub wholes : c.whole ≤ count_limit
  pub fours : c.four ≤ count_limit

-- the test says so
pub room_is : (c : Chain) → roomy c ≡ true → Room c
unfolding roomy
room_is c e =
    let f = both_holds (leb c.whole count_limit) (leb c.four count_limit) e in
    record { wholes = leb-true c.whole count_limit f.0; fours = leb-true c.four count_limit f.1 }

-- and it says no more
pub room_roomy : (c : Chain) → Room c → roomy c ≡ true
unfolding roomy
room_roomy c h = rw (le-leb c.whole count_limit h.wholes, le-leb c.four count_limit h.fours)

module _ (c : Chain) where
  -- the whole-cipher steps have none
  pub roomy_not : count_limit < c.whole → leb c.whole count_limit ≡ roomy c
  unfolding roomy
  roomy_not a = rw (lt-leb c.whole count_limit a)

  -- they have, so it is for the four-round steps to say
  pub roomy_fours : c.whole ≤ count_limit → leb c.four count_limit ≡ roomy c
  unfolding roomy
  roomy_fours a = rw (le-leb c.whole count_limit a)

module _ (d : ℕ) (round subkeys : List ℕ) (done : ℕ) (c : Chain) (part : List ℕ) where
  -- both counts have room
  pub absorbed_room : roomy c ≡ true → absorbed d round subkeys done c part ≡ walked d round subkeys done c part
  unfolding absorbed
  absorbed_room a = rw a

  -- one has none
  pub absorbed_not : roomy c ≡ false → absorbed d round subkeys done c part ≡ c
  unfolding absorbed
  absorbed_not a = rw a

module _ (round : List ℕ) (full short : Block) (c : Chain) (last : List ℕ) where
  pub sealed_room : roomy c ≡ true → sealed_by round full short c last ≡ sealing round full short c last
  unfolding sealed_by
  sealed_room a = rw a

  pub sealed_not : roomy c ≡ false → sealed_by round full short c last ≡ c
  unfolding sealed_by
  sealed_not a = rw a

  -- from what the callees hand back
  pub sealing_is : (x v : Block) → x ≡ closing full short c.value last → v ≡ cipher round x
      → record { value = v; whole = c.whole + 1; four = c.four } ≡ sealing round full short c last
  unfolding sealing
  sealing_is x v ex ev = ap (λ (y : Block). record { value = y; whole = c.whole + 1; four = c.four }) (ev ∙ ap (cipher round) ex)

module _ (full short s last : Block) (n : ℕ) (whole : length last ≡ 16) where
  -- a full last block
  pub closing_full : (p h r : Block) → 16 ≤ n → p ≡ padded (take n last) → h ≡ s ⊕ p → r ≡ full ⊕ h
      → r ≡ closing full short s (take n last)
  unfolding closing
  closing_full p h r l ep eh er =
      let e : take n last ≡ last = take_all n last (omega arith) in
      let m : length (take n last) ≡ 16 = rw e whole in
      er ∙ rw (eq-eqb _ _ m) (ap (λ (y : Block). full ⊕ y) (eh ∙ ap (λ (y : Block). s ⊕ y) ep))

  -- a shorter one
  pub closing_short : (p h r : Block) → n < 16 → p ≡ padded (take n last) → h ≡ s ⊕ p → r ≡ short ⊕ h
      → r ≡ closing full short s (take n last)
  unfolding closing
  closing_short p h r l ep eh er =
      let m : length (take n last) ≡ n = length-take-le n last (omega arith) in
      let ne : length (take n last) ≡ 16 → ⊥ = λ z. omega arith in
      er ∙ rw (ne_eqb (length (take n last)) 16 ne) (ap (λ (y : Block). short ⊕ y) (eh ∙ ap (λ (y : Block). s ⊕ y) ep))
