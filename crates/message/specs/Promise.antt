-- What the public functions of this crate promise, and that each promise leaves one answer, and one content of the lent slice.
-- Assumes nothing.
use Rattle.std.specs.Prelude.{◌≡◌, List, ℕ, length}
use Rattle.laws.proofs.Once.{once}
use Rattle.keys.specs.declared.KeySet.{KeySet}
use Rattle.tag.specs.declared.TagAnswer.{TagAnswer}
use Rattle.message.specs.Answer.{tag_answer, tag_slice, verdict}

-- tag hands back 0 and the counts, and the slice then holds the tag; or the number of the first fault, no counts, and the slice holds
-- what it held
abbrev pub TagPromise : KeySet → List ℕ → List ℕ → TagAnswer → List ℕ → Type 0
TagPromise keys message slice r after = (r ≡ tag_answer keys message (length slice)) × (after ≡ tag_slice keys message slice)

-- any two outcomes that tag may have are equal, the answer and the slice
pub tag_once : (keys : KeySet) (message slice : List ℕ) (r r' : TagAnswer) (after after' : List ℕ)
    → TagPromise keys message slice r after → TagPromise keys message slice r' after' → (r ≡ r') × (after ≡ after')
tag_once keys message slice r r' after after' p q = (once p.0 q.0, once p.1 q.1)

-- verify hands back 0 where the received tag is accepted and otherwise 7, with the counts; or the number of the first fault and none
abbrev pub VerifyPromise : KeySet → List ℕ → List ℕ → TagAnswer → Type 0
VerifyPromise keys message received r = r ≡ verdict keys message received

-- any two answers that verify may give are equal
pub verify_once : (keys : KeySet) (message received : List ℕ) (r r' : TagAnswer) → VerifyPromise keys message received r
    → VerifyPromise keys message received r' → r ≡ r'
verify_once keys message received r r' p q = once p q
