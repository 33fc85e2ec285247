-- What the public function of this crate promises, and that the promise leaves one answer, and one content of the lent space.
-- Assumes nothing.
use Rattle.std.specs.Prelude.{◌≡◌, List, ℕ, length}
use Rattle.laws.proofs.Once.{once}
use Rattle.keys.specs.declared.KeySet.{KeySet}
use Rattle.writer.specs.declared.Written.{Written}
use Rattle.writer.specs.Line.{write_answer, write_space}

-- write hands back 0, the counts of the body's tag and how many characters it wrote, and the space then holds the frame line of the body
-- from its start, and is untouched behind it; or the number of the first fault and zeros, and the space holds what it held
abbrev pub WritePromise : KeySet → List ℕ → List ℕ → Written → List ℕ → Type 0
WritePromise keys body space r after = (r ≡ write_answer keys body (length space)) × (after ≡ write_space keys body space)

-- any two outcomes that write may have are equal, the answer and the space
pub write_once : (keys : KeySet) (body space : List ℕ) (r r' : Written) (after after' : List ℕ) → WritePromise keys body space r after
    → WritePromise keys body space r' after' → (r ≡ r') × (after ≡ after')
write_once keys body space r r' after after' p q = (once p.0 q.0, once p.1 q.1)
