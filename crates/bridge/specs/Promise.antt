-- What the public function of this crate promises, and that the promise leaves one answer.
-- Assumes nothing.
use Rattle.std.specs.Prelude.{◌≡◌, List, ℕ}
use Rattle.std.specs.Borrow.{Bor}
use Rattle.keys.specs.declared.KeySet.{KeySet}
use Rattle.frame.specs.Promise.{OpenOrPromise, open_or_once}

-- open_or_keep hands back what frame's open_or does: the body of an accepted frame, which lies where the frame does, or the whole table,
-- which lies where it did
abbrev pub OpenOrKeepPromise : KeySet → Bor (List ℕ) → Bor (List ℕ) → Bor (List ℕ) → Type 0
OpenOrKeepPromise keys frame table r = OpenOrPromise keys frame table r

-- any two slices that open_or_keep may hand back are equal, their bytes and their place
pub open_or_keep_once : (keys : KeySet) (frame table r r' : Bor (List ℕ)) → OpenOrKeepPromise keys frame table r
    → OpenOrKeepPromise keys frame table r' → (r.now ≡ r'.now) × (r.ref_ptr ≡ r'.ref_ptr)
open_or_keep_once keys frame table r r' p q = open_or_once keys frame table r r' p q
