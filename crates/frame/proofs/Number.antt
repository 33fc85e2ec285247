-- A frame's number by cases, and what number 0 tells of its length and its key set, and what it takes.
-- Assumes nothing.
use Rattle.std.proofs.Common.{◌≡◌, refl, sym, Bool, true, false, [], ◌∷◌, ◌⊎◌, inl, inr, ℕ, ◌≤◌, ◌<◌, leb, ltb, leb-true, ltb-true, le-leb}
use Rattle.std.proofs.Common.{lt-ltb, le-ltb}
use borrow.Author.Tests.{lt-leb}
use Rattle.laws.specs.Agree.{both}
use Rattle.laws.specs.Fault.{unless, first_fault}
use Rattle.laws.specs.UpTo.{up_to}
use Rattle.laws.proofs.Both.{both_holds}
use Rattle.laws.proofs.Fault.{unless_holds, unless_fails, unless_none, fault_found, fault_pass, fault_last, none_of_two}
use Rattle.keys.specs.declared.KeySet.{KeySet}
use Rattle.keys.specs.SetNumber.{bits_number, set_number}
use Rattle.keys.proofs.SetNumber.{Taken, set_taken, taken_set}
use Rattle.tag.specs.Tag.{tag_bytes}
use Rattle.frame.specs.Frame.{longest_frame, frame_number}

-- a frame of n bytes has a tag to be checked, and a body before it
pub record Framed (k : KeySet) (n : ℕ) : Type 0 where
  pub set : Taken k
  pub fits : n ≤ longest_frame
  pub some : tag_bytes k.bits < n

module _ (k : KeySet) (n : ℕ) where
  -- what is judged of its length
  abbrev measured : Bool
  measured = both (leb n longest_frame) (ltb (tag_bytes k.bits) n)

  -- a fault of the key set is the answer
  pub frame_set : {r : ℕ} → r ≡ set_number k → (r ≡ 0 → ⊥) → r ≡ frame_number k n
  unfolding frame_number
  frame_set e h = fault_found (unless measured 8 ∷ []) e h

  frame_length : {q r : ℕ} → q ≡ set_number k → q ≡ 0 → r ≡ unless measured 8 → r ≡ frame_number k n
  unfolding frame_number
  frame_length e z f = fault_pass (unless measured 8 ∷ []) e z (fault_last f)

  -- it is too long
  pub frame_long : {q : ℕ} → q ≡ set_number k → q ≡ 0 → longest_frame < n → 8 ≡ frame_number k n
  frame_long e z h = frame_length e z (unless_fails 8 (rw (lt-leb n longest_frame h)))

  -- it has no body byte before its tag
  pub frame_short : {q : ℕ} → q ≡ set_number k → q ≡ 0 → n ≤ longest_frame → n ≤ tag_bytes k.bits → 8 ≡ frame_number k n
  frame_short e z h l =
      frame_length e z (unless_fails 8 (rw (le-leb n longest_frame h, le-ltb (tag_bytes k.bits) n l)))

  -- number 0 says that there is neither
  pub framed : frame_number k n ≡ 0 → Framed k n
  unfolding frame_number
  framed e =
      let f = none_of_two (set_number k) (unless measured 8) e in
      let b = both_holds (leb n longest_frame) (ltb (tag_bytes k.bits) n) (unless_none 7 measured f.1) in
      record {
        set = set_taken k f.0;
        fits = leb-true n longest_frame b.0;
        some = ltb-true (tag_bytes k.bits) n b.1;
      }

  -- and is what a frame so made gives
  pub frame_none : {q : ℕ} → q ≡ set_number k → q ≡ 0 → n ≤ longest_frame → tag_bytes k.bits < n → 0 ≡ frame_number k n
  frame_none e z h l =
      frame_length e z (unless_holds 8 (rw (le-leb n longest_frame h, lt-ltb (tag_bytes k.bits) n l)))

  pub framed_none : Framed k n → frame_number k n ≡ 0
  framed_none f = sym (frame_none (taken_set k f.set) refl f.fits f.some)

-- the numbers that there are
pub number_cases : (k : KeySet) (n : ℕ)
    → (frame_number k n ≡ 0) ⊎ (frame_number k n ≡ 1) ⊎ (frame_number k n ≡ 2) ⊎ (frame_number k n ≡ 8)
unfolding frame_number set_number bits_number first_fault unless
number_cases k n = by (up_to 5 k.order) (up_to 128 k.bits) (measured k n)
  where
    by : (a b c : Bool)
        → let r = first_fault (first_fault (unless a 1 ∷ unless b 2 ∷ []) ∷ unless c 8 ∷ []) in
        (r ≡ 0) ⊎ (r ≡ 1) ⊎ (r ≡ 2) ⊎ (r ≡ 8)
    by false b c = inr (inl refl)
    by true false c = inr (inr (inl refl))
    by true true false = inr (inr (inr refl))
    by true true true = inl refl
