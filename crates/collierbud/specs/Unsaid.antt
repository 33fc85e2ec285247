-- WHERE NO ORDER IS SAID, 0, each exported call has the outcome that it has at order 2: its answer and what it leaves in the lent slices,
-- refused or not.
-- Assumes nothing.
use Rattle.std.specs.Prelude.{◌≡◌, List, ℕ}
use Rattle.collierbud.specs.Promise.{TagPromise, CheckPromise, OpenPromise}

-- all of it
pub record OrderUnsaid : Type 0 where
  pub tagged_unsaid : (bits : ℕ) (K L message space counts : List ℕ) (r r' : ℕ) (after after' counted counted' : List ℕ)
      → TagPromise 0 bits K L message space counts r after counted → TagPromise 2 bits K L message space counts r' after' counted'
      → (r ≡ r') × (after ≡ after') × (counted ≡ counted')
  pub checked_unsaid : (bits : ℕ) (K L message received counts : List ℕ) (r r' : ℕ) (after after' : List ℕ)
      → CheckPromise 0 bits K L message received counts r after → CheckPromise 2 bits K L message received counts r' after'
      → (r ≡ r') × (after ≡ after')
  pub opened_unsaid : (bits : ℕ) (K L frame counts : List ℕ) (r r' : ℕ) (after after' : List ℕ)
      → OpenPromise 0 bits K L frame counts r after → OpenPromise 2 bits K L frame counts r' after' → (r ≡ r') × (after ≡ after')
