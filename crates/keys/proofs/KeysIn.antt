-- What stands in a key set that the key call made: the subkeys of KEYSCH, zeros beyond the order, 4d - 1 steps; and so the tag under it is
-- TAGGEN's of K and L.
-- Assumes nothing.
use Rattle.std.proofs.Common.{◌≡◌, refl, ap, sym, ◌∙◌, List, ℕ, ◌+◌, ◌-◌, ◌*◌, ◌/◌, ◌%◌, ◌≤◌, ◌<◌, arith, length, get_or, ext_get_or}
use Rattle.std.proofs.Common.{eq-eqb}
use Rattle.laws.proofs.Agree.{table_length, table_at}
use Rattle.block.specs.Block.{Block, zeros}
use Rattle.pcmac.specs.Keysch.{U, X, KEYSCH}
use Rattle.pcmac.specs.Limits.{resolved_order, resolved_tag}
use Rattle.pcmac.specs.Taggen.{Tagged, keys_of, taggen, TAGGEN}
use Rattle.pcmac.proofs.Keysch.{keysch_u_none, keysch_x_none, keysch_steps}
use Rattle.pcmac.proofs.Taggen.{Alike, taggen_alike}
use Rattle.keys.specs.Arrangement.{place_at, u_part, x_key, placed, arranged}
use Rattle.keys.specs.Answer.{key_number, set_of, done_keys, key_answer}
use Rattle.keys.specs.KeysIn.{keys_in}
use Rattle.keys.proofs.Arrangement.{u_within, x_within}
use Rattle.keys.proofs.Stored.{placed_u, placed_x, placed_length, arranged_byte}
use Rattle.keys.proofs.Number.{order_within, number_faultless}

module _ (d : ℕ) (K L : Block) where
  -- the bytes at a place are the block that was put there
  arranged_place : (n : ℕ) → n < 19 → place_at (arranged (KEYSCH d K L)) n ≡ placed (KEYSCH d K L) n
  arranged_place n h =
      let f : ℕ → ℕ = λ j. get_or (arranged (KEYSCH d K L)) (16 * n + j) 0 in
      ext_get_or 0 (place_at (arranged (KEYSCH d K L)) n) (placed (KEYSCH d K L) n) (table_length f 16 ∙ sym (placed_length d K L n))
      (λ j b.
      let l : j < 16 = rw (table_length f 16) at b in
      let q : (16 * n + j) / 16 ≡ n = omega arith in
      let r : (16 * n + j) % 16 ≡ j = omega arith in
      table_at f 16 j l ∙ arranged_byte d K L (16 * n + j) (omega arith) ∙ rw (q, r))

  -- the accessor of U_w^(j) gives KEYSCH's, which is zeros beyond the order
  pub in_u : (w j : ℕ) → 1 ≤ w → w ≤ 5 → 1 ≤ j → j ≤ 3 → u_part (arranged (KEYSCH d K L)) w j ≡ U (KEYSCH d K L) w j
  in_u w j a b c e =
      let n : ℕ = 3 * (w - 1) + (j - 1) in
      let ew : (3 * (w - 1) + (j - 1)) / 3 + 1 ≡ w = omega arith in
      let ej : (3 * (w - 1) + (j - 1)) % 3 + 1 ≡ j = omega arith in
      u_within (arranged (KEYSCH d K L)) w j a b c e
      ∙ arranged_place (3 * (w - 1) + (j - 1)) (omega arith)
      ∙ placed_u d K L (3 * (w - 1) + (j - 1)) (omega arith) ∙ rw (ew, ej)

  -- the accessor of K_j^xor gives KEYSCH's, which is zeros beyond the order
  pub in_x : (j : ℕ) → 1 ≤ j → j ≤ 4 → x_key (arranged (KEYSCH d K L)) j ≡ X (KEYSCH d K L) j
  in_x j a b =
      let e : 15 + (j - 1) - 15 + 1 ≡ j = omega arith in
      x_within (arranged (KEYSCH d K L)) j a b
      ∙ arranged_place (15 + (j - 1)) (omega arith)
      ∙ placed_x d K L (15 + (j - 1)) (omega arith) ∙ rw e

  -- a place beyond the order holds zeros
  pub beyond_u : (w j : ℕ) → d < w → 1 ≤ w → w ≤ 5 → 1 ≤ j → j ≤ 3 → u_part (arranged (KEYSCH d K L)) w j ≡ zeros
  beyond_u w j h a b c e = in_u w j a b c e ∙ keysch_u_none d K L w j h

  pub beyond_x : (j : ℕ) → d ≤ j → 1 ≤ j → j ≤ 4 → x_key (arranged (KEYSCH d K L)) j ≡ zeros
  beyond_x j h a b = in_x j a b ∙ keysch_x_none d K L j a h

  -- the keys of the set are those of K and L, as far as the order uses them
  pub in_alike : (p : ℕ) → d ≤ 5 → Alike d (keys_in (set_of d p K L)) (keys_of d K L)
  unfolding keys_in set_of keys_of
  in_alike p high = record {
    wholes = λ b. refl;
    us = λ w j a b c e. in_u w j a (omega arith) c e;
    xs = λ j a b. in_x j a (omega arith);
    fulls = refl;
    shorts = refl;
  }

  -- under the key set of K and L Algorithm 2.2 takes the steps and makes the tag that it does under K and L
  pub in_taggen : (p : ℕ) (M : List ℕ) → d ≤ 5 → taggen (keys_in (set_of d p K L)) d p M ≡ taggen (keys_of d K L) d p M
  in_taggen p M high = taggen_alike d (keys_in (set_of d p K L)) (keys_of d K L) (in_alike p high) p M

-- the steps that the key call reports where nothing is refused: 4d - 1
pub key_steps : (order bits : ℕ) (K L : List ℕ) → key_number order bits (length K) (length L) ≡ 0
    → (key_answer order bits K L).steps ≡ 4 * resolved_order order - 1
unfolding key_answer done_keys
key_steps order bits K L h =
    let fits = (number_faultless order bits (length K) (length L) h).order_fits in
    rw (eq-eqb (key_number order bits (length K) (length L)) 0 h)
    (keysch_steps (resolved_order order) K L (order_within order fits).low)

-- under the key set that the key call answers for K and L, Algorithm 2.2 takes the steps and makes the tag that it does under K and L
pub key_taggen : (order bits : ℕ) (K L M : List ℕ) → key_number order bits (length K) (length L) ≡ 0
    → taggen (keys_in (key_answer order bits K L).keys) (key_answer order bits K L).keys.order
    (key_answer order bits K L).keys.bits M
    ≡ taggen (keys_of (resolved_order order) K L) (resolved_order order) (resolved_tag bits) M
unfolding key_answer done_keys set_of
key_taggen order bits K L M h =
    let fits = (number_faultless order bits (length K) (length L) h).order_fits in
    rw (eq-eqb (key_number order bits (length K) (length L)) 0 h)
    (in_taggen (resolved_order order) K L (resolved_tag bits) M (order_within order fits).high)

-- and so the tag is TAGGEN's of K and L
pub key_tag : (order bits : ℕ) (K L M : List ℕ) → key_number order bits (length K) (length L) ≡ 0
    → (taggen (keys_in (key_answer order bits K L).keys) (key_answer order bits K L).keys.order
    (key_answer order bits K L).keys.bits M).tag
    ≡ TAGGEN (resolved_order order) (resolved_tag bits) K L M
unfolding TAGGEN
key_tag order bits K L M h = ap (λ (t : Tagged). t.tag) (key_taggen order bits K L M h)
