-- What the public functions of this crate promise, and that each promise leaves one answer, and one content of the lent slice.
-- Assumes nothing.
use Rattle.std.specs.Prelude.{◌≡◌, List, ℕ, length}
use Rattle.laws.proofs.Once.{once}
use Rattle.keys.specs.declared.KeySet.{KeySet}
use Rattle.tag.specs.declared.TagAnswer.{TagAnswer}
use Rattle.judge.specs.declared.Stream.{Stream}
use Rattle.judge.specs.Stream.{started}
use Rattle.stream.specs.declared.Added.{Added}
use Rattle.stream.specs.Answer.{add_answer, close_answer, close_slice, check_answer}

-- start hands back the stream of no bytes
abbrev pub StartPromise : Stream → Type 0
StartPromise r = r ≡ started

-- any two answers that start may give are equal
pub start_once : (r r' : Stream) → StartPromise r → StartPromise r' → r ≡ r'
start_once r r' p q = once p q

-- add hands back 0 and the stream with the part; or the number of the first fault and the stream as it was given
abbrev pub AddPromise : KeySet → Stream → List ℕ → Added → Type 0
AddPromise keys s part r = r ≡ add_answer keys s part

-- any two answers that add may give are equal
pub add_once : (keys : KeySet) (s : Stream) (part : List ℕ) (r r' : Added) → AddPromise keys s part r → AddPromise keys s part r'
    → r ≡ r'
add_once keys s part r r' p q = once p q

-- close hands back 0 and the counts with the closing step, and the slice then holds the tag; or the number of the first fault, no
-- counts, and the slice holds what it held
abbrev pub ClosePromise : KeySet → Stream → List ℕ → TagAnswer → List ℕ → Type 0
ClosePromise keys s slice r after = (r ≡ close_answer keys s (length slice)) × (after ≡ close_slice keys s slice)

-- any two outcomes that close may have are equal, the answer and the slice
pub close_once : (keys : KeySet) (s : Stream) (slice : List ℕ) (r r' : TagAnswer) (after after' : List ℕ)
    → ClosePromise keys s slice r after → ClosePromise keys s slice r' after' → (r ≡ r') × (after ≡ after')
close_once keys s slice r r' after after' p q = (once p.0 q.0, once p.1 q.1)

-- check hands back 0 where the received tag is accepted and otherwise 7, with the counts; or the number of the first fault and none
abbrev pub CheckPromise : KeySet → Stream → List ℕ → TagAnswer → Type 0
CheckPromise keys s received r = r ≡ check_answer keys s received

-- any two answers that check may give are equal
pub check_once : (keys : KeySet) (s : Stream) (received : List ℕ) (r r' : TagAnswer) → CheckPromise keys s received r
    → CheckPromise keys s received r' → r ≡ r'
check_once keys s received r r' p q = once p q
