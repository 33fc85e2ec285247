-- Wrong outcomes that the promises do not permit, for every input that tells them apart, or at one.
-- Assumes nothing.
use Rattle.std.proofs.Common.{◌≡◌, refl, sym, ap, ◌∙◌, List, ◌∷◌, ℕ, ◌+◌, ◌-◌, ◌≤◌, ◌<◌, arith, length, get_or, replicate}
use Rattle.laws.proofs.UpTo.{up_to_is}
use Rattle.block.specs.Bits.{binary, bits, value, bytes}
use Rattle.block.specs.Block.{Block, zeros, ◌⊕◌, shifted, msb, reduction, mul2}
use Rattle.pcmac.specs.Limits.{resolved, resolved_order, resolved_tag}
use Rattle.keys.specs.declared.KeyAnswer.{KeyAnswer}
use Rattle.keys.specs.declared.KeySet.{KeySet}
use Rattle.keys.specs.Answer.{set_of, done_keys, refused_keys}
use Rattle.keys.specs.Arrangement.{place_at}
use Rattle.keys.specs.Promise.{UPartPromise, XKeyPromise, RefusedPromise, NoSetPromise, KeyCallPromise, BitsFaultPromise, SetFaultPromise}
use Rattle.keys.proofs.Arrangement.{u_within, x_within}
use Rattle.keys.proofs.Number.{number_tag, number_none, answer_refused, answer_done}
use Rattle.keys.proofs.SetNumber.{Taken, bits_none, bits_within, taken_set}

-- u_part does not answer zeros for U_5 where other bytes stand at its places
pub fifth_u_missing : (subkeys : List ℕ) (j : ℕ) (r : Block) → 1 ≤ j → j ≤ 3 → (place_at subkeys (12 + (j - 1)) ≡ zeros → ⊥)
    → r ≡ zeros → UPartPromise subkeys 5 j r → ⊥
fifth_u_missing subkeys j r low high some z p = some (sym (p ∙ u_within subkeys 5 j (omega arith) (omega arith) low high) ∙ z)

-- x_key does not answer zeros for the fourth auxiliary key where other bytes stand at its place
pub fourth_x_missing : (subkeys : List ℕ) (r : Block) → (place_at subkeys 18 ≡ zeros → ⊥) → r ≡ zeros → XKeyPromise subkeys 4 r → ⊥
fourth_x_missing subkeys r some z p = some (sym (p ∙ x_within subkeys 4 (omega arith) (omega arith)) ∙ z)

-- a refusal does not report a step
pub refused_with_steps : (number : ℕ) (r : KeyAnswer) → 1 ≤ r.steps → RefusedPromise number r → ⊥
unfolding refused_keys
refused_with_steps number r h p = let z : r.steps ≡ 0 = ap (λ (a : KeyAnswer). a.steps) p in omega arith

-- no_set does not hand back a set with a tag length
pub no_set_of_some_length : (r : KeySet) → 1 ≤ r.bits → NoSetPromise r → ⊥
no_set_of_some_length r h p = let z : r.bits ≡ 0 = ap (λ (k : KeySet). k.bits) p in omega arith

-- key_call does not refuse a tag length above 128 by the number 3
pub tag_length_refused_as_size : (order bits : ℕ) (K L : List ℕ) (r : KeyAnswer) → order ≤ 5 → 128 < bits → r.number ≡ 3
    → KeyCallPromise order bits K L r → ⊥
unfolding refused_keys
tag_length_refused_as_size order bits K L r low long h p =
    let two = number_tag order bits (length K) (length L) low long in
    let q = p ∙ sym (answer_refused order bits K L (λ z. omega arith)) in
    let z = ap (λ (a : KeyAnswer). a.number) q in
    omega arith

-- a key call that is done
module _ (order bits : ℕ) (K L : List ℕ) (r : KeyAnswer) (low : order ≤ 5) (fits : bits ≤ 128) (k_size : length K ≡ 16)
    (l_size : length L ≡ 16) (p : KeyCallPromise order bits K L r) where
  set_is : r.keys ≡ set_of (resolved_order order) (resolved_tag bits) K L
  unfolding done_keys
  set_is =
      ap (λ (a : KeyAnswer). a.keys)
      (p
      ∙ sym
      (answer_done order bits K L (number_none order bits (length K) (length L) low fits k_size l_size) refl refl refl refl))

  -- order 0 does not mean 1
  pub order_zero_is_one : order ≡ 0 → r.keys.order ≡ 1 → ⊥
  unfolding set_of resolved
  order_zero_is_one e h =
      let z : r.keys.order ≡ 2 = ap (λ (k : KeySet). k.order) set_is ∙ ap resolved_order e in
      omega arith

  -- the mask of a shorter last block is not L doubled once: of 80 and zeros, 87 at the end
  pub short_doubled_once : L ≡ 0x80 ∷ replicate 15 0x00 → get_or r.keys.short 15 0 ≡ 0x87 → ⊥
  unfolding set_of mul2 shifted msb reduction bits bytes binary value ◌⊕◌
  short_doubled_once e h =
      let z : get_or r.keys.short 15 0 ≡ 0x0e =
      ap (λ (k : KeySet). get_or k.short 15 0) set_is ∙ ap (λ (l : Block). get_or (mul2 (mul2 l)) 15 0) e in
      omega arith

-- set_fault does not hold a tag length to the highest order
pub tag_length_by_the_order : (k : KeySet) (r : ℕ) → 1 ≤ k.order → k.order ≤ 5 → 5 < k.bits → k.bits ≤ 128 → r ≡ 2
    → SetFaultPromise k r → ⊥
tag_length_by_the_order k r a b c d h p =
    let taken : Taken k = record { order = record { low = a; high = b }; tag = record { low = omega arith; high = d } } in
    let z = p ∙ sym (taken_set k taken) in
    omega arith

-- a tag length that does not exist, none or above 128 bits, and is taken
pub no_such_length_taken : (p r : ℕ) → (1 ≤ p → p ≤ 128 → ⊥) → BitsFaultPromise p r → r ≡ 0 → ⊥
no_such_length_taken p r h e z = let w = bits_within p (sym e ∙ z) in h w.low w.high

-- one that does, and is refused
pub length_refused : (p r : ℕ) → 1 ≤ p → p ≤ 128 → BitsFaultPromise p r → (r ≡ 0 → ⊥) → ⊥
length_refused p r a b e w = w (e ∙ sym (bits_none p (up_to_is 128 p a b)))
