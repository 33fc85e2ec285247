-- Wrong outcomes that the promises do not permit, for every input that tells them apart, or at one.
-- Assumes nothing.
use mathlib.Core.Path.{◌≡◌, ap, ◌∙◌}
use mathlib.Core.List.{List, ◌∷◌, ◌++◌}
use Prim.Native.Nat.{ℕ, suc, ◌+◌, ◌/◌, ◌%◌}
use native.Mathlib.Omega.{arith}
use lib.ListN.{length, get_or, take, replicate}
use Rattle.laws.proofs.Up.{first, up_more}
use Rattle.field.specs.Field.{xtime, mul_digits}
use Rattle.field.specs.Sbox.{sub_byte, affine, affine_digits, affine_digit, digit, inverse, pow_digits}
use Rattle.state.specs.State.{mix}
use Rattle.aes.specs.Cipher.{unkeyed_round, keyed_round}
use Rattle.aes.specs.FourRounds.{four_rounds}
use Rattle.block.specs.Block.{Block, zeros, ◌⊕◌}
use Rattle.chain.specs.declared.Chain.{Chain}
use Rattle.chain.specs.Stream.{after}
use Rattle.chain.proofs.Count.{Added, walk_added}
use Rattle.pcmac.specs.Taggen.{step}
use Rattle.keys.specs.Arrangement.{u_part}
use Rattle.engine.specs.Engine.{chain_step, walked, sealing}
use Rattle.engine.specs.Promise.{StepPromise, AbsorbPromise, SealPromise}
use Rattle.engine.proofs.Room.{Room, room_roomy, absorbed_room, sealed_room}

-- subkeys that are zeros but for a 1 in the third part of U_2
abbrev second_u : List ℕ
second_u = replicate 80 0 ++ (1 ∷ replicate 223 0)

-- step does not take G under U_2 at place 1: of zeros, 76 and not D7
pub second_u_for_the_first : (round : List ℕ) (r : Block) → get_or r 0 0 ≡ 0xd7 → StepPromise round second_u 1 zeros zeros r → ⊥
unfolding chain_step step u_part ◌⊕◌ four_rounds unkeyed_round keyed_round mix sub_byte affine affine_digits affine_digit digit inverse
    pow_digits mul_digits xtime
second_u_for_the_first round r h p = let z : get_or r 0 0 ≡ 0x76 = ap (λ (b : Block). get_or b 0 0) p in omega arith

-- absorbing one block more
module _ (d : ℕ) (round subkeys : List ℕ) (done : ℕ) (c : Chain) (part : List ℕ) (r : Chain) (room : Room c)
    (single : length part / 16 ≡ 1) (p : AbsorbPromise d round subkeys done c part r) where
  added : Added d done (length part / 16) c r
  unfolding walked
  added =
      rw (p, absorbed_room d round subkeys done c part (room_roomy c room))
      (walk_added d (chain_step round subkeys) (after done part) done (length part / 16) c)

  wholes : r.whole ≡ c.whole + first (done % (d + 1))
  wholes = omega (arith, rw single at added.wholes_added, up_more d done)

  -- a whole-cipher step is not left out where the cycle begins anew
  pub whole_step_left_out : done % (d + 1) ≡ 0 → r.whole ≡ c.whole → ⊥
  whole_step_left_out e h = let z : r.whole ≡ c.whole + 1 = wholes ∙ ap (λ (w : ℕ). c.whole + first w) e in omega arith

  -- a four-round step is not counted as a whole-cipher step
  pub four_rounds_counted_whole : (w : ℕ) → done % (d + 1) ≡ suc w → r.whole ≡ c.whole + 1 → ⊥
  four_rounds_counted_whole w e h =
      let z : r.whole ≡ c.whole + 0 = wholes ∙ ap (λ (w : ℕ). c.whole + first w) e in
      omega arith

-- seal does not count the closing step twice
pub closing_counted_twice : (round : List ℕ) (full short : Block) (c : Chain) (last : Block) (n : ℕ) (r : Chain) → Room c
    → r.whole ≡ c.whole + 2 → SealPromise round full short c last n r → ⊥
unfolding sealing
closing_counted_twice round full short c last n r room h p =
    let z : r.whole ≡ c.whole + 1 =
    ap (λ (x : Chain). x.whole) (p ∙ sealed_room round full short c (take n last) (room_roomy c room)) in
    omega arith
