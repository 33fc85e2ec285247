-- What the exported functions promise, and that each promise leaves one answer and one content of each lent slice.
-- Assumes nothing.
use Rattle.std.specs.Prelude.{◌≡◌, List, ℕ, length}
use Rattle.laws.proofs.Once.{once}
use Rattle.keys.specs.Answer.{key_answer}
use Rattle.collierbud.specs.Answer.{tagging, tagged_space, checking, opening, two_counts, three_counts}

-- collierbud_tag hands back the number; the space then holds the tag, or where it is refused what it held; and the slice for the counts,
-- where it has two places, the counts, zeros where it is refused
abbrev pub TagPromise : ℕ → ℕ → List ℕ → List ℕ → List ℕ → List ℕ → List ℕ → ℕ → List ℕ → List ℕ → Type 0
TagPromise order bits K L message space counts r after counted =
    let made = key_answer order bits K L in
    let a = tagging made (length counts) message (length space) in
    (r ≡ a.number) × (after ≡ tagged_space made (length counts) message space) × (counted ≡ two_counts a counts)

-- any two outcomes that collierbud_tag may have are equal, the answer and both slices
pub tag_once : (order bits : ℕ) (K L message space counts : List ℕ) (r r' : ℕ) (after after' counted counted' : List ℕ)
    → TagPromise order bits K L message space counts r after counted
    → TagPromise order bits K L message space counts r' after' counted' → (r ≡ r') × (after ≡ after') × (counted ≡ counted')
tag_once order bits K L message space counts r r' after after' counted counted' p q =
    (once p.0 q.0, once p.1 q.1, once p.2 q.2)

-- collierbud_check hands back the number; and the slice for the counts, where it has two places, then holds the counts, those of the
-- check where the number is 0 or 7 and otherwise zeros
abbrev pub CheckPromise : ℕ → ℕ → List ℕ → List ℕ → List ℕ → List ℕ → List ℕ → ℕ → List ℕ → Type 0
CheckPromise order bits K L message received counts r after =
    let a = checking (key_answer order bits K L) (length counts) message received in
    (r ≡ a.number) × (after ≡ two_counts a counts)

-- any two outcomes that collierbud_check may have are equal, the answer and the slice
pub check_once : (order bits : ℕ) (K L message received counts : List ℕ) (r r' : ℕ) (after after' : List ℕ)
    → CheckPromise order bits K L message received counts r after
    → CheckPromise order bits K L message received counts r' after' → (r ≡ r') × (after ≡ after')
check_once order bits K L message received counts r r' after after' p q = (once p.0 q.0, once p.1 q.1)

-- collierbud_open hands back the number; and the slice for the counts, where it has three places, then holds the counts of the check and,
-- where the number is 0, the body's length
abbrev pub OpenPromise : ℕ → ℕ → List ℕ → List ℕ → List ℕ → List ℕ → ℕ → List ℕ → Type 0
OpenPromise order bits K L frame counts r after =
    let a = opening (key_answer order bits K L) (length counts) frame in
    (r ≡ a.number) × (after ≡ three_counts a counts)

-- any two outcomes that collierbud_open may have are equal, the answer and the slice
pub open_once : (order bits : ℕ) (K L frame counts : List ℕ) (r r' : ℕ) (after after' : List ℕ)
    → OpenPromise order bits K L frame counts r after → OpenPromise order bits K L frame counts r' after'
    → (r ≡ r') × (after ≡ after')
open_once order bits K L frame counts r r' after after' p q = (once p.0 q.0, once p.1 q.1)
