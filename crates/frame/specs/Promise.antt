-- What the public functions of this crate promise, and that each promise leaves one answer: where a slice is handed back, one place in
-- memory and one content.
-- Assumes nothing.
use Rattle.std.specs.Prelude.{◌≡◌, List, ℕ}
use Rattle.std.specs.Borrow.{Bor}
use Rattle.laws.proofs.Once.{once}
use Rattle.keys.specs.declared.KeySet.{KeySet}
use Rattle.frame.specs.declared.FrameAnswer.{FrameAnswer}
use Rattle.frame.specs.Frame.{refused_frame, frame_answer}
use Rattle.frame.specs.Open.{opened, opened_or, opened_at}

-- refused hands back the number, no counts and no length
abbrev pub RefusedPromise : ℕ → FrameAnswer → Type 0
RefusedPromise number r = r ≡ refused_frame number

-- any two answers that refused may give are equal
pub refused_once : (number : ℕ) (r r' : FrameAnswer) → RefusedPromise number r → RefusedPromise number r' → r ≡ r'
refused_once number r r' p q = once p q

-- judge hands back the verdict on a frame
abbrev pub JudgePromise : KeySet → List ℕ → FrameAnswer → Type 0
JudgePromise keys frame r = r ≡ frame_answer keys frame

-- any two answers that judge may give are equal
pub judge_once : (keys : KeySet) (frame : List ℕ) (r r' : FrameAnswer) → JudgePromise keys frame r → JudgePromise keys frame r'
    → r ≡ r'
judge_once keys frame r r' p q = once p q

-- open hands back the body of an accepted frame, or no bytes; both lie where the frame does
abbrev pub OpenPromise : KeySet → Bor (List ℕ) → Bor (List ℕ) → Type 0
OpenPromise keys frame r = (r.now ≡ opened keys frame.now) × (r.ref_ptr ≡ frame.ref_ptr)

-- any two slices that open may hand back are equal, their bytes and their place
pub open_once : (keys : KeySet) (frame r r' : Bor (List ℕ)) → OpenPromise keys frame r → OpenPromise keys frame r'
    → (r.now ≡ r'.now) × (r.ref_ptr ≡ r'.ref_ptr)
open_once keys frame r r' p q = (once p.0 q.0, once p.1 q.1)

-- open_or hands back the body of an accepted frame, which lies where the frame does, or the whole table, which lies where it did
abbrev pub OpenOrPromise : KeySet → Bor (List ℕ) → Bor (List ℕ) → Bor (List ℕ) → Type 0
OpenOrPromise keys frame table r =
    (r.now ≡ opened_or keys frame.now table.now) × (r.ref_ptr ≡ opened_at keys frame.now frame.ref_ptr table.ref_ptr)

-- any two slices that open_or may hand back are equal, their bytes and their place
pub open_or_once : (keys : KeySet) (frame table r r' : Bor (List ℕ)) → OpenOrPromise keys frame table r
    → OpenOrPromise keys frame table r' → (r.now ≡ r'.now) × (r.ref_ptr ≡ r'.ref_ptr)
open_or_once keys frame table r r' p q = (once p.0 q.0, once p.1 q.1)
