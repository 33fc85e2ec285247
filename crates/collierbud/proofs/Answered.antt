-- What is answered, by the fault before the call under the key set, and what the slice for the counts holds then.
-- Assumes nothing.
use Rattle.std.proofs.Common.{◌≡◌, refl, ap, sym, ◌∙◌, List, [], ◌∷◌, ℕ, eqb, length, eq-eqb, ne_eqb, Result, Ok, Err}
use Rattle.laws.specs.Fault.{unless}
use Rattle.laws.proofs.Fault.{unless_holds, unless_fails, fault_found, fault_pass, fault_last}
use Rattle.std.specs.Result.{result_and, result_unwrap_or}
use Rattle.numbers.specs.declared.Refusal.{Refusal}
use Rattle.numbers.specs.declared.Refusal.TheVariants.{BadSize}
use Rattle.numbers.specs.Told.{number, number_of}
use Rattle.numbers.proofs.Number.{not_done}
use Rattle.keys.specs.declared.Made.{Made}
use Rattle.keys.specs.declared.KeySet.{KeySet}
use Rattle.keys.specs.Told.{told_keys}
use Rattle.keys.specs.declared.KeyAnswer.{KeyAnswer}
use Rattle.tag.specs.declared.Counts.{Counts}
use Rattle.tag.specs.Told.{told_made}
use Rattle.tag.specs.declared.TagAnswer.{TagAnswer}
use Rattle.frame.specs.declared.FrameAnswer.{FrameAnswer}
use Rattle.collierbud.specs.Answer.{start_number, unless_refused, two_counts, three_counts}
use Rattle.collierbud.specs.Inner.{Starts, from_start, counted}

-- the fault before the call: the key call's,
module _ (number n places : ℕ) where
  pub start_key : (number ≡ 0 → ⊥) → number ≡ start_number number n places
  unfolding start_number
  start_key h = fault_found (unless (eqb places n) 3 ∷ []) refl h

  -- or that of the places, or none
  pub start_places : number ≡ 0 → (places ≡ n → ⊥) → 3 ≡ start_number number n places
  unfolding start_number
  start_places z h = fault_pass (unless (eqb places n) 3 ∷ []) refl z (fault_last (unless_fails 3 (ne_eqb places n h)))

  pub start_none : number ≡ 0 → places ≡ n → 0 ≡ start_number number n places
  unfolding start_number
  start_none z e = fault_pass (unless (eqb places n) 3 ∷ []) refl z (fault_last (unless_holds 3 (eq-eqb places n e)))

-- where to start from, by the key call's outcome and the places
module _ (made : Result Made Refusal) (n places : ℕ) where
  pub starts_refused : (why : Refusal) → made ≡ Err why → Starts (told_keys made) n places (Err why)
  unfolding told_keys
  starts_refused why e = rw e (start_key (number_of why) n places (not_done why))

  pub starts_cramped : (m : Made) → made ≡ Ok m → (places ≡ n → ⊥) → Starts (told_keys made) n places (Err BadSize)
  unfolding told_keys number_of
  starts_cramped m e h = rw e (start_places 0 n places refl h)

  pub starts_done : (m : Made) → made ≡ Ok m → places ≡ n → Starts (told_keys made) n places (Ok m.keys)
  unfolding told_keys
  starts_done m e h = rw e (sym (start_none 0 n places refl h), refl)

-- a fault is the answer, and without one it is the call's
module _ {A : Type 0} (answer : A) (refusal : ℕ → A) {number : ℕ} where
  pub is_refused : {r : ℕ} → r ≡ number → (r ≡ 0 → ⊥) → refusal r ≡ unless_refused number answer refusal
  unfolding unless_refused
  is_refused e h = rw (ne_eqb number 0 (λ z. h (e ∙ z))) (ap refusal e)

  pub is_answered : {r : ℕ} → r ≡ number → r ≡ 0 → answer ≡ unless_refused number answer refusal
  unfolding unless_refused
  is_answered e z = rw (eq-eqb number 0 (sym e ∙ z))

-- so what is given from where the call starts is what is answered
pub start_gives : {A : Type 0} (made : KeyAnswer) (n places : ℕ) (r : Result KeySet Refusal) → Starts made n places r
    → (answer : KeySet → A) (refusal : ℕ → A)
    → from_start r answer refusal ≡ unless_refused (start_number made.number n places) (answer made.keys) refusal
unfolding from_start
start_gives made n places (Ok k) s answer refusal = ap answer s.1 ∙ is_answered _ refusal refl s.0
start_gives made n places (Err why) s answer refusal = is_refused _ refusal s (not_done why)

-- the slice for the counts, where it has just as many places, and where not
module _ (told l : List ℕ) where
  pub counted_put : length l ≡ length told → told ≡ counted told l
  unfolding counted
  counted_put e = rw (eq-eqb (length l) (length told) e)

  pub counted_left : (length l ≡ length told → ⊥) → l ≡ counted told l
  unfolding counted
  counted_left h = rw (ne_eqb (length l) (length told) h)

-- which are those of an answer
module _ (a : TagAnswer) (l : List ℕ) where
  pub two_counted : counted (a.whole ∷ a.four ∷ []) l ≡ two_counts a l
  unfolding counted two_counts
  two_counted = refl

  pub two_is : length l ≡ 2 → two_counts a l ≡ a.whole ∷ a.four ∷ []
  unfolding two_counts
  two_is e = rw (eq-eqb (length l) 2 e)

  pub two_left : (length l ≡ 2 → ⊥) → l ≡ two_counts a l
  unfolding two_counts
  two_left h = rw (ne_eqb (length l) 2 h)

module _ (a : FrameAnswer) (l : List ℕ) where
  pub three_counted : counted (a.whole ∷ a.four ∷ a.body ∷ []) l ≡ three_counts a l
  unfolding counted three_counts
  three_counted = refl

  pub three_is : length l ≡ 3 → three_counts a l ≡ a.whole ∷ a.four ∷ a.body ∷ []
  unfolding three_counts
  three_is e = rw (eq-eqb (length l) 3 e)

-- of a tag's outcome: its number, and its counts, zeros where it is refused
module _ (r : Result Counts Refusal) where
  pub tag_number : number (result_and {U = Unit {0}} r (Ok (tt {0}))) ≡ (told_made r).number
  unfolding number told_made
  tag_number = by r
    where
      by : (r : Result Counts Refusal) → number (result_and {U = Unit {0}} r (Ok (tt {0}))) ≡ (told_made r).number
      by (Ok c) = refl
      by (Err why) = refl

  pub tag_counts : {c : Counts} → c ≡ result_unwrap_or r (record { whole = 0; four = 0 })
      → (c.whole ∷ c.four ∷ []) ≡ ((told_made r).whole ∷ (told_made r).four ∷ [])
  unfolding told_made
  tag_counts {c} e = ap (λ (d : Counts). d.whole ∷ d.four ∷ []) e ∙ by r
    where
      by : (r : Result Counts Refusal) → let d : Counts = result_unwrap_or r (record { whole = 0; four = 0 }) in
          (d.whole ∷ d.four ∷ []) ≡ ((told_made r).whole ∷ (told_made r).four ∷ [])
      by (Ok c) = refl
      by (Err why) = refl
