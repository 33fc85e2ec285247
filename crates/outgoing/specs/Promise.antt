-- What the public function of this crate promises, and that the promise leaves one answer, and one content of the lent space.
-- Assumes nothing.
use Rattle.std.specs.Prelude.{◌≡◌, List, ℕ}
use Rattle.laws.proofs.Once.{once}
use Rattle.keys.specs.declared.KeySet.{KeySet}
use Rattle.lines.specs.Tell.{TellsIn}
use Rattle.outgoing.specs.Text.{most_text, sent_text}

-- tell hands back how many bytes it wrote, and the space then holds the text at a body line from its start, and is untouched behind it;
-- with a space under 511 bytes it writes nothing
abbrev pub TellPromise : KeySet → List ℕ → List ℕ → ℕ → List ℕ → Type 0
TellPromise keys line space r after = TellsIn most_text (sent_text keys line) space r after

-- any two outcomes that tell may have are equal, the answer and the space
pub tell_once : (keys : KeySet) (line space : List ℕ) (r r' : ℕ) (after after' : List ℕ) → TellPromise keys line space r after
    → TellPromise keys line space r' after' → (r ≡ r') × (after ≡ after')
tell_once keys line space r r' after after' p q = (once p.0 q.0, once p.1 q.1)
