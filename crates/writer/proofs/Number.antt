-- The number of a body and a space by cases, and what number 0 tells of them, and what it takes.
-- Assumes nothing.
use Rattle.std.proofs.Common.{◌≡◌, refl, sym, Bool, [], ◌∷◌, ℕ, ◌+◌, ◌≤◌, ◌<◌, arith, leb, leb-true, le-leb}
use borrow.Author.Tests.{lt-leb}
use Rattle.laws.specs.Agree.{both}
use Rattle.laws.specs.Fault.{unless}
use Rattle.laws.proofs.Both.{both_holds}
use Rattle.laws.proofs.Fault.{unless_holds, unless_fails, unless_none, fault_found, fault_pass, fault_last, none_of_three}
use Rattle.keys.specs.declared.KeySet.{KeySet}
use Rattle.keys.specs.SetNumber.{set_number}
use Rattle.keys.proofs.SetNumber.{Taken, set_taken, taken_set}
use Rattle.tag.specs.Tag.{tag_bytes}
use Rattle.frame.specs.Frame.{longest_frame}
use Rattle.writer.specs.Line.{least_room, write_number}

-- a body of n bytes fits a frame with its tag
pub record Fits (k : KeySet) (n : ℕ) : Type 0 where
  pub set : Taken k
  pub some : 1 ≤ n
  pub most : n + tag_bytes k.bits ≤ longest_frame

module _ (k : KeySet) (room n : ℕ) where
  -- what is judged of its length
  abbrev measured : Bool
  measured = both (leb 1 n) (leb (n + tag_bytes k.bits) longest_frame)

  -- a fault of the key set is the answer
  pub write_set : {r : ℕ} → r ≡ set_number k → (r ≡ 0 → ⊥) → r ≡ write_number k room n
  unfolding write_number
  write_set e h = fault_found (unless (leb least_room room) 3 ∷ unless measured 10 ∷ []) e h

  module _ {q : ℕ} (e : q ≡ set_number k) (z : q ≡ 0) where
    -- the space is too small
    pub write_cramped : room < least_room → 3 ≡ write_number k room n
    unfolding write_number
    write_cramped h =
        fault_pass _ e z (fault_found (unless measured 10 ∷ []) (unless_fails 3 (lt-leb least_room room h)) (λ q. omega arith))

    write_body : least_room ≤ room → {r : ℕ} → r ≡ unless measured 10 → r ≡ write_number k room n
    unfolding write_number
    write_body h f = fault_pass _ e z (fault_pass _ (unless_holds 3 (le-leb least_room room h)) refl (fault_last f))

    -- the body is empty
    pub write_empty : least_room ≤ room → n ≡ 0 → 10 ≡ write_number k room n
    write_empty h none = write_body h (unless_fails 10 (rw (lt-leb 1 n (omega arith))))

    -- or too long
    pub write_long : least_room ≤ room → 1 ≤ n → longest_frame < n + tag_bytes k.bits → 10 ≡ write_number k room n
    write_long h some l =
        write_body h (unless_fails 10 (rw (le-leb 1 n some, lt-leb (n + tag_bytes k.bits) longest_frame l)))

    -- neither
    pub write_none : least_room ≤ room → 1 ≤ n → n + tag_bytes k.bits ≤ longest_frame → 0 ≡ write_number k room n
    write_none h some l =
        write_body h (unless_holds 10 (rw (le-leb 1 n some, le-leb (n + tag_bytes k.bits) longest_frame l)))

  -- number 0 says that there is no fault
  pub writes_told : write_number k room n ≡ 0 → (least_room ≤ room) × Fits k n
  unfolding write_number
  writes_told e =
      let f = none_of_three (set_number k) (unless (leb least_room room) 3) (unless measured 10) e in
      let b = both_holds (leb 1 n) (leb (n + tag_bytes k.bits) longest_frame) (unless_none 9 measured f.2) in (
        leb-true least_room room (unless_none 2 (leb least_room room) f.1),
        record {
          set = set_taken k f.0;
          some = leb-true 1 n b.0;
          most = leb-true (n + tag_bytes k.bits) longest_frame b.1;
        },
      )

  -- and is what a body so made gives
  pub writes_none : least_room ≤ room → Fits k n → write_number k room n ≡ 0
  writes_none h f = sym (write_none (taken_set k f.set) refl h f.some f.most)
