-- What Algorithm 2.1's store makes is the arranged subkeys of KEYSCH, with its steps.
-- Assumes nothing.
use Rattle.std.proofs.Common.{Ok, ◌≡◌, refl, ap, sym, ◌∙◌, ⊎_elim, List, ℕ, zero, suc, ◌+◌, ◌-◌, ◌*◌, ◌/◌, ◌%◌, ◌≤◌, ◌<◌, not-suc-le-zero}
use Rattle.std.proofs.Common.{le_of_suc-le-suc, eq-or-lt_of_le, arith, length, get_or, ext_get_or, eq-eqb, ne_eqb, lt-ltb, le-ltb}
use Rattle.std.proofs.Math.ListN.{get_or-replicate}
use Rattle.laws.proofs.Agree.{table_length, table_at}
use Rattle.laws.proofs.Cases.{below_or_not}
use Rattle.aes.proofs.Length.{cipher_length}
use Rattle.aes.specs.Cipher.{cipher}
use Rattle.aes.specs.Schedule.{schedule}
use Rattle.block.specs.Block.{Block, zeros, ◌⊕◌, numbered, mul2}
use Rattle.block.proofs.Joined.{joined_length, joined_byte}
use Rattle.pcmac.specs.Functions.{E}
use Rattle.pcmac.specs.Keysch.{U, X, KEYSCH}
use Rattle.pcmac.proofs.Keysch.{made, keysch_u, keysch_u_none, keysch_x, keysch_x_none, keysch_steps}
use Rattle.keys.specs.declared.subkeys.Taken.{Taken}
use Rattle.keys.specs.Arrangement.{placed, arranged}
use Rattle.keys.specs.Answer.{set_of, done_keys}
use Rattle.keys.specs.Told.{told_keys}
use Rattle.keys.specs.Store.{laid_at, laid, stored, ran, untaken, taken}
use Rattle.keys.proofs.Ran.{ran_steps}

-- a byte of the array after a store, at its place and elsewhere
laid_here : (s : List ℕ) (n : ℕ) (b : Block) (i : ℕ) → i < 304 → i / 16 ≡ n → get_or (laid s n b) i 0 ≡ get_or b (i % 16) 0
unfolding laid
laid_here s n b i h e = table_at (laid_at s n b) 304 i h ∙ rw (eq-eqb (i / 16) n e)

laid_there : (s : List ℕ) (n : ℕ) (b : Block) (i : ℕ) → i < 304 → (i / 16 ≡ n → ⊥) → get_or (laid s n b) i 0 ≡ get_or s i 0
unfolding laid
laid_there s n b i h e = table_at (laid_at s n b) 304 i h ∙ rw (ne_eqb (i / 16) n e)

module _ (e : Block → Block) (L : Block) (place counter : ℕ) (t : Taken) (i : ℕ) (h : i < 304) where
  -- a byte at a place that the steps do not reach
  ran_out : (n : ℕ) → ((j : ℕ) → j < n → i / 16 ≡ place + j → ⊥)
      → get_or (ran e L place counter t n).subkeys i 0 ≡ get_or t.subkeys i 0
  unfolding ran stored
  ran_out zero out = refl
  ran_out (suc n) out =
      laid_there (ran e L place counter t n).subkeys (place + n) (made e L (counter + n)) i h (out n (omega arith))
      ∙ ran_out n (λ j l. out j (omega arith))

  -- a byte at the place of step j
  ran_in : (n j : ℕ) → j < n → i / 16 ≡ place + j
      → get_or (ran e L place counter t n).subkeys i 0 ≡ get_or (made e L (counter + j)) (i % 16) 0
  unfolding ran stored
  ran_in zero j l q = absurd (not-suc-le-zero l)
  ran_in (suc n) j l q =
      ⊎_elim
      (λ s.
      laid_here (ran e L place counter t n).subkeys (place + n) (made e L (counter + n)) i h (omega arith)
      ∙ ap (λ (x : ℕ). get_or (made e L (counter + x)) (i % 16) 0) (sym s))
      (λ s.
      laid_there (ran e L place counter t n).subkeys (place + n) (made e L (counter + n)) i h (λ z. omega arith)
      ∙ ran_in n j s q)
      (eq-or-lt_of_le (le_of_suc-le-suc l))

module _ (d : ℕ) (K L : Block) where
  -- each place holds a block
  u_length : (i j : ℕ) → 1 ≤ i → 1 ≤ j → j ≤ 3 → length (U (KEYSCH d K L) i j) ≡ 16
  u_length i j a b c =
      ⊎_elim (λ o. ap length (keysch_u_none d K L i j o))
      (λ o. ap length (keysch_u d K L i j a o b c) ∙ cipher_length (schedule K) (L ⊕ numbered (3 * (i - 1) + (j - 1))))
      (below_or_not d i)

  x_length : (j : ℕ) → 1 ≤ j → length (X (KEYSCH d K L) j) ≡ 16
  x_length j a =
      ⊎_elim (λ o. ap length (keysch_x d K L j a o) ∙ cipher_length (schedule K) (L ⊕ numbered (3 * d + (j - 1))))
      (λ o. ap length (keysch_x_none d K L j a o))
      (below_or_not j d)

  pub placed_u : (n : ℕ) → n < 15 → placed (KEYSCH d K L) n ≡ U (KEYSCH d K L) (n / 3 + 1) (n % 3 + 1)
  placed_u n h = rw (lt-ltb n 15 h)

  pub placed_x : (n : ℕ) → 15 ≤ n → placed (KEYSCH d K L) n ≡ X (KEYSCH d K L) (n - 15 + 1)
  placed_x n h = rw (le-ltb n 15 h)

  pub placed_length : (n : ℕ) → length (placed (KEYSCH d K L) n) ≡ 16
  placed_length n =
      ⊎_elim (λ o. ap length (placed_u n o) ∙ u_length (n / 3 + 1) (n % 3 + 1) (omega arith) (omega arith) (omega arith))
      (λ o. ap length (placed_x n o) ∙ x_length (n - 15 + 1) (omega arith))
      (below_or_not n 15)

  pub arranged_byte : (i : ℕ) → i < 304 → get_or (arranged (KEYSCH d K L)) i 0 ≡ get_or (placed (KEYSCH d K L) (i / 16)) (i % 16) 0
  unfolding arranged
  arranged_byte i h = joined_byte (placed (KEYSCH d K L)) placed_length 19 i h

  -- what the definition has at a place: the block of its counter, or zeros
  place_u : (n : ℕ) → n < 3 * d → n < 15 → placed (KEYSCH d K L) n ≡ made (E K) L (0 + n)
  place_u n h l =
      placed_u n l ∙ keysch_u d K L (n / 3 + 1) (n % 3 + 1) (omega arith) (omega arith) (omega arith) (omega arith)
      ∙ ap (made (E K) L) (omega arith)

  place_no_u : (n : ℕ) → 3 * d ≤ n → n < 15 → placed (KEYSCH d K L) n ≡ zeros
  place_no_u n h l = placed_u n l ∙ keysch_u_none d K L (n / 3 + 1) (n % 3 + 1) (omega arith)

  place_x : (n : ℕ) → 15 ≤ n → n - 15 < d - 1 → placed (KEYSCH d K L) n ≡ made (E K) L (3 * d + (n - 15))
  place_x n l h =
      placed_x n l ∙ keysch_x d K L (n - 15 + 1) (omega arith) (omega arith) ∙ ap (made (E K) L) (omega arith)

  place_no_x : (n : ℕ) → 15 ≤ n → d - 1 ≤ n - 15 → placed (KEYSCH d K L) n ≡ zeros
  place_no_x n l h = placed_x n l ∙ keysch_x_none d K L (n - 15 + 1) (omega arith) (omega arith)

  -- what the store has there: byte i, at place i / 16
  module _ (low : 1 ≤ d) (high : d ≤ 5) (i : ℕ) (h : i < 304) where
    -- the store's byte is the definition's
    abbrev Right : Type 0
    Right = get_or (taken (E K) L d).subkeys i 0 ≡ get_or (placed (KEYSCH d K L) (i / 16)) (i % 16) 0

    by_u : i / 16 < 3 * d → i / 16 < 15 → Right
    unfolding taken
    by_u a b =
        ran_out (E K) L 15 (3 * d) (ran (E K) L 0 0 untaken (3 * d)) i h (d - 1) (λ j l z. omega arith)
        ∙ ran_in (E K) L 0 0 untaken i h (3 * d) (i / 16) a (omega arith)
        ∙ ap (λ (x : Block). get_or x (i % 16) 0) (sym (place_u (i / 16) a b))

    by_x : 15 ≤ i / 16 → i / 16 - 15 < d - 1 → Right
    unfolding taken
    by_x a b =
        ran_in (E K) L 15 (3 * d) (ran (E K) L 0 0 untaken (3 * d)) i h (d - 1) (i / 16 - 15) b (omega arith)
        ∙ ap (λ (x : Block). get_or x (i % 16) 0) (sym (place_x (i / 16) a b))

    -- a place that no step reaches
    by_none : ((j : ℕ) → j < 3 * d → i / 16 ≡ 0 + j → ⊥) → ((j : ℕ) → j < d - 1 → i / 16 ≡ 15 + j → ⊥)
        → placed (KEYSCH d K L) (i / 16) ≡ zeros → Right
    unfolding taken
    by_none a b e =
        ran_out (E K) L 15 (3 * d) (ran (E K) L 0 0 untaken (3 * d)) i h (d - 1) b
        ∙ ran_out (E K) L 0 0 untaken i h (3 * d) a ∙ get_or-replicate 304 i 0 0 h
        ∙ sym (ap (λ (x : Block). get_or x (i % 16) 0) e ∙ get_or-replicate 16 (i % 16) 0 0 (omega arith))

    by_low : i / 16 < 15 → Right
    by_low b =
        ⊎_elim (λ a. by_u a b)
        (λ a. by_none (λ j l z. omega arith) (λ j l z. omega arith) (place_no_u (i / 16) a b))
        (below_or_not (i / 16) (3 * d))

    by_high : 15 ≤ i / 16 → Right
    by_high b =
        ⊎_elim (by_x b)
        (λ a. by_none (λ j l z. omega arith) (λ j l z. omega arith) (place_no_x (i / 16) b a))
        (below_or_not (i / 16 - 15) (d - 1))

    taken_byte : get_or (taken (E K) L d).subkeys i 0 ≡ get_or (arranged (KEYSCH d K L)) i 0
    taken_byte = ⊎_elim by_low by_high (below_or_not (i / 16) 15) ∙ sym (arranged_byte i h)

ran_length : (e : Block → Block) (L : Block) (place counter : ℕ) (t : Taken) (n : ℕ) → length t.subkeys ≡ 304
    → length (ran e L place counter t n).subkeys ≡ 304
unfolding ran stored laid
ran_length e L place counter t zero h = h
ran_length e L place counter t (suc n) h =
    table_length (laid_at (ran e L place counter t n).subkeys (place + n) (made e L (counter + n))) 304

-- Algorithm 2.1's store, whole
pub taken_is : (d : ℕ) (K L : Block) → 1 ≤ d → d ≤ 5
    → taken (E K) L d ≡ record { subkeys = arranged (KEYSCH d K L); steps = (KEYSCH d K L).steps }
unfolding taken arranged
taken_is d K L low high =
    let parts = ran (E K) L 0 0 untaken (3 * d) in
    let size : length (taken (E K) L d).subkeys ≡ 304 =
    ran_length (E K) L 15 (3 * d) parts (d - 1) (ran_length (E K) L 0 0 untaken (3 * d) refl) in
    let size' : length (arranged (KEYSCH d K L)) ≡ 304 = joined_length (placed (KEYSCH d K L)) (placed_length d K L) 19 in
    let e₁ : (taken (E K) L d).subkeys ≡ arranged (KEYSCH d K L) =
    ext_get_or 0 (taken (E K) L d).subkeys (arranged (KEYSCH d K L)) (size ∙ sym size')
    (λ i h. taken_byte d K L low high i (rw size at h)) in
    let n : parts.steps ≡ 3 * d = ran_steps (E K) L 0 0 untaken (3 * d) ∙ omega arith in
    let e₂ : (taken (E K) L d).steps ≡ (KEYSCH d K L).steps =
    ran_steps (E K) L 15 (3 * d) parts (d - 1) ∙ sym (keysch_steps d K L low ∙ omega arith) in
    λ i. record { subkeys = e₁ i; steps = e₂ i }

-- the parts of the key set, as they are made one after the other, are the answer
pub done_is : (order bits : ℕ) (K L : Block) (round : List ℕ) (t : Taken) (full short : Block) → 1 ≤ order → order ≤ 5
    → round ≡ schedule K → t ≡ taken (cipher round) L order → full ≡ mul2 L → short ≡ mul2 full
    → told_keys
    (Ok
    (record {
      steps = t.steps;
      keys = record { order = order; bits = bits; round = round; subkeys = t.subkeys; full = full; short = short };
    }))
    ≡ done_keys order bits K L
unfolding done_keys set_of told_keys
done_is order bits K L round t full short low high er et ef es =
    let q : t ≡ record { subkeys = arranged (KEYSCH order K L); steps = (KEYSCH order K L).steps } =
    et ∙ ap (λ (w : List ℕ). taken (cipher w) L order) er ∙ taken_is order K L low high in
    let s : short ≡ mul2 (mul2 L) = es ∙ ap mul2 ef in
    λ i. record {
      number = 0;
      steps = (q i).steps;
      keys = record { order = order; bits = bits; round = er i; subkeys = (q i).subkeys; full = ef i; short = s i };
    }
