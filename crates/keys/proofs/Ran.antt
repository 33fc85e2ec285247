-- Steps taken one after the other: from the start, by one step more, to the end.
-- Assumes nothing.
use Rattle.std.proofs.Common.{◌≡◌, refl, ap, ◌∙◌, List, ℕ, zero, suc, ◌+◌, ◌-◌, ◌*◌, ◌≤◌, ◌<◌, add-one, arith}
use Rattle.aes.specs.Cipher.{cipher}
use Rattle.block.specs.Block.{Block, ◌⊕◌, numbered}
use Rattle.pcmac.proofs.Keysch.{made}
use Rattle.keys.specs.declared.subkeys.Taken.{Taken}
use Rattle.keys.specs.Store.{laid, stored, ran, untaken, taken}

-- each step is counted
pub ran_steps : (e : Block → Block) (L : Block) (place counter : ℕ) (t : Taken) (n : ℕ)
    → (ran e L place counter t n).steps ≡ t.steps + n
unfolding ran stored
ran_steps e L place counter t zero = omega arith
ran_steps e L place counter t (suc n) = let h = ran_steps e L place counter t n in omega arith

pub ran_count : (e : Block → Block) (L : Block) (place counter : ℕ) (t : Taken) (n : ℕ) (r : Taken) → r ≡ ran e L place counter t n
    → r.steps ≡ t.steps + n
ran_count e L place counter t n r q = ap (λ (x : Taken). x.steps) q ∙ ran_steps e L place counter t n

-- i of n steps have been taken, and there is room for the rest
pub record Running (e : Block → Block) (L : Block) (place counter n : ℕ) (t r : Taken) (i : ℕ) : Type 0 where
  pub is : r ≡ ran e L place counter t i
  pub most : i ≤ n
  pub places : place + n ≤ 19
  pub counters : counter + n ≤ 19
  pub steps : t.steps + n ≤ 19

pub running_none : (e : Block → Block) (L : Block) (place counter n : ℕ) (t : Taken) → place + n ≤ 19 → counter + n ≤ 19
    → t.steps + n ≤ 19 → Running e L place counter n t t 0
unfolding ran
running_none e L place counter n t a b c =
    record { is = refl; most = omega arith; places = a; counters = b; steps = c }

pub running_room : {e : Block → Block} {L : Block} {place counter n i : ℕ} {t r : Taken} → Running e L place counter n t r i
    → i < n → r.steps < 19
running_room {e} {L} {place} {counter} {n} {i} {t} {r} s h =
    omega (arith, ran_count e L place counter t i r s.is, s.steps)

pub running_more : {e : Block → Block} {L : Block} {place counter n i : ℕ} {t r r' : Taken} → Running e L place counter n t r i
    → i < n → r' ≡ stored r (place + i) (made e L (counter + i)) → Running e L place counter n t r' (i + 1)
unfolding ran
running_more {e} {L} {place} {counter} {n} {i} {t} {r} {r'} s h q = record {
  is = rw add-one (q ∙ ap (λ (x : Taken). stored x (place + i) (made e L (counter + i))) s.is);
  most = omega arith;
  places = s.places;
  counters = s.counters;
  steps = s.steps;
}

pub running_all : {e : Block → Block} {L : Block} {place counter n i : ℕ} {t r : Taken} → Running e L place counter n t r i
    → n ≤ i → r ≡ ran e L place counter t n
running_all {e} {L} {place} {counter} {n} {i} {t} {r} s h =
    let q : i ≡ n = omega (arith, s.most) in s.is ∙ rw q

-- one step, put together: its number, the sum with L, E of that, and the store
pub stored_is : (round : List ℕ) (L : Block) (counter : ℕ) (t : Taken) (n : ℕ) (number sum block : Block) (subkeys : List ℕ)
    → number ≡ numbered counter → sum ≡ L ⊕ number → block ≡ cipher round sum → subkeys ≡ laid t.subkeys n block
    → record { subkeys = subkeys; steps = t.steps + 1 } ≡ stored t n (made (cipher round) L counter)
unfolding stored
stored_is round L counter t n number sum block subkeys en es eb ek =
    let q : block ≡ made (cipher round) L counter = eb ∙ ap (cipher round) (es ∙ ap (λ (x : Block). L ⊕ x) en) in
    ap (λ (x : List ℕ). record { subkeys = x; steps = t.steps + 1 }) (ek ∙ ap (laid t.subkeys n) q)

-- the two loops, put together
pub taken_runs : (e : Block → Block) (L : Block) (d : ℕ) (parts all : Taken) → parts ≡ ran e L 0 0 untaken (3 * d)
    → all ≡ ran e L 15 (3 * d) parts (d - 1) → all ≡ taken e L d
unfolding taken
taken_runs e L d parts all ep ea = ea ∙ ap (λ (t : Taken). ran e L 15 (3 * d) t (d - 1)) ep
