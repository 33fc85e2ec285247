-- A step put together from what its callees hand back; and that the engine's step and its closing step under a key set are the
-- definition's.
-- Assumes nothing.
use Rattle.std.proofs.Common.{◌≡◌, refl, sym, ap, ◌∙◌, ⊎_elim, List, ℕ, ◌+◌, ◌-◌, ◌≤◌, ◌<◌, eq-or-lt_of_le, arith, length, eq-eqb, ne_eqb}
use Rattle.aes.specs.Cipher.{cipher}
use Rattle.block.specs.Block.{Block, zeros, ◌⊕◌, padded, cut}
use Rattle.chain.specs.declared.Chain.{Chain}
use Rattle.pcmac.specs.Functions.{G}
use Rattle.chain.specs.Walk.{Step}
use Rattle.pcmac.specs.Taggen.{Tagged, step_of, keys_of, hashed, masked, sealed}
use Rattle.pcmac.proofs.Taggen.{step_whole, step_first, step_later, step_alike, masked_full, masked_short, hashed_sum}
use Rattle.keys.specs.declared.KeySet.{KeySet}
use Rattle.keys.specs.Arrangement.{u_part, x_key}
use Rattle.keys.specs.Answer.{set_of}
use Rattle.keys.specs.KeysIn.{keys_in}
use Rattle.keys.proofs.KeysIn.{in_alike}
use Rattle.engine.specs.Engine.{chain_step, closing, sealing}

module _ (round subkeys : List ℕ) (w : ℕ) (s b : Block) where
  -- at place 0
  pub whole_is : (sum r : Block) → w ≡ 0 → sum ≡ s ⊕ b → r ≡ cipher round sum → r ≡ chain_step round subkeys w s b
  unfolding chain_step
  whole_is sum r h e q =
      q ∙ ap (cipher round) e ∙ sym (step_whole (cipher round) (u_part subkeys) (x_key subkeys) w s b h)

  -- at place 1
  pub first_is : (sum r : Block) → w ≡ 1 → sum ≡ s ⊕ b → r ≡ G (u_part subkeys 1) sum → r ≡ chain_step round subkeys w s b
  unfolding chain_step
  first_is sum r h e q =
      q ∙ ap (G (u_part subkeys 1)) e ∙ sym (step_first (cipher round) (u_part subkeys) (x_key subkeys) w s b h)

  -- at a later place
  pub later_is : (x keyed sum r : Block) → 2 ≤ w → x ≡ x_key subkeys (w - 1) → keyed ≡ s ⊕ x → sum ≡ keyed ⊕ b
      → r ≡ G (u_part subkeys w) sum → r ≡ chain_step round subkeys w s b
  unfolding chain_step
  later_is x keyed sum r h ex ek es q =
      q ∙ ap (G (u_part subkeys w)) (es ∙ ap (λ (y : Block). y ⊕ b) (ek ∙ ap (λ (y : Block). s ⊕ y) ex))
      ∙ sym (step_later (cipher round) (u_part subkeys) (x_key subkeys) w s b h)

-- over the arrays of a key set, the step is Algorithm 2.2's under the keys that stand in it
pub engine_step : (set : KeySet) → chain_step set.round set.subkeys ≡ step_of (keys_in set)
unfolding chain_step keys_in
engine_step set = refl

-- over those of the key set of K and L, it is the step under K and L
pub engine_step_of : (d p : ℕ) (K L : Block) (w : ℕ) (s b : Block) → d ≤ 5 → w ≤ d
    → chain_step (set_of d p K L).round (set_of d p K L).subkeys w s b ≡ step_of (keys_of d K L) w s b
engine_step_of d p K L w s b high h =
    ap (λ (f : Step). f w s b) (engine_step (set_of d p K L))
    ∙ step_alike d (keys_in (set_of d p K L)) (keys_of d K L) (in_alike d K L p high) w s b h

-- and so is its whole cipher
engine_whole : (set : KeySet) → cipher set.round ≡ (keys_in set).whole
unfolding keys_in
engine_whole set = refl

-- what the closing step encrypts is Algorithm 2.2's, of a last block of 1 to 16 bytes
closing_masked : (set : KeySet) (s : Block) (last : List ℕ) → 1 ≤ length last → length last ≤ 16
    → closing set.full set.short s last ≡ masked (keys_in set) last (s ⊕ padded last)
unfolding closing keys_in
closing_masked set s last a b = ⊎_elim full short (eq-or-lt_of_le b)
  where
    full : length last ≡ 16 → closing set.full set.short s last ≡ masked (keys_in set) last (s ⊕ padded last)
    full e = rw (eq-eqb _ _ e) (sym (masked_full (keys_in set) last (s ⊕ padded last) e))

    short : length last < 16 → closing set.full set.short s last ≡ masked (keys_in set) last (s ⊕ padded last)
    short l =
        rw (ne_eqb (length last) 16 (λ e. omega arith)) (sym (masked_short (keys_in set) last (s ⊕ padded last) a l))

-- over a key set's round keys and masks, the closing step is Algorithm 2.2's under the keys that stand in it: the tag is cut from its
-- value, and its counts are the tag's
pub engine_sealed : (set : KeySet) (p m : ℕ) (c : Chain) (last : List ℕ) → 1 ≤ length last → length last ≤ 16
    → (m ≡ 1 → c.value ≡ zeros)
    → record {
      tag = cut p (sealing set.round set.full set.short c last).value;
      whole = (sealing set.round set.full set.short c last).whole;
      four = (sealing set.round set.full set.short c last).four;
    }
    ≡ sealed (keys_in set) p m c last
unfolding sealing sealed
engine_sealed set p m c last a b z =
    let e : closing set.full set.short c.value last ≡ masked (keys_in set) last (hashed m c.value last) =
    closing_masked set c.value last a b ∙ ap (masked (keys_in set) last) (sym (hashed_sum m c.value last b z)) in
    let t : (Block → Block) → Block → Tagged = λ f x. record { tag = cut p (f x); whole = c.whole + 1; four = c.four } in
    ap (t (cipher set.round)) e
    ∙ ap (λ (f : Block → Block). t f (masked (keys_in set) last (hashed m c.value last))) (engine_whole set)
