-- What the public functions of this crate promise, and that each promise leaves one answer, and one content of the lent slice.
-- Assumes nothing.
use Rattle.std.specs.Prelude.{◌≡◌, List, ℕ, length}
use Rattle.laws.proofs.Once.{once}
use Rattle.chain.specs.declared.Chain.{Chain}
use Rattle.tag.specs.declared.TagAnswer.{TagAnswer}
use Rattle.tag.specs.Fault.{size_number, tag_number}
use Rattle.tag.specs.Tag.{tag_bytes}
use Rattle.tag.specs.Answer.{tagged_by, refused_tag, making_answer, making_slice, checking_answer}

-- size hands back how many bytes a tag of so many bits occupies
abbrev pub SizePromise : ℕ → ℕ → Type 0
SizePromise p r = r ≡ tag_bytes p

-- any two answers that size may give are equal
pub size_once : (p r r' : ℕ) → SizePromise p r → SizePromise p r' → r ≡ r'
size_once p r r' a b = once a b

-- refused hands back its number and no counts; unchecked, told, the number of the refusal and none
abbrev pub RefusedPromise : ℕ → TagAnswer → Type 0
RefusedPromise number r = r ≡ refused_tag number

-- any two answers that refused may give are equal, and any two that unchecked may
pub refused_once : (number : ℕ) (r r' : TagAnswer) → RefusedPromise number r → RefusedPromise number r' → r ≡ r'
refused_once number r r' a b = once a b

-- size_fault hands back 3 where a slice is not of just the bytes of a tag, otherwise 0
abbrev pub SizeFaultPromise : ℕ → ℕ → ℕ → Type 0
SizeFaultPromise p n r = r ≡ size_number p n

-- any two answers that size_fault may give are equal
pub size_fault_once : (p n r r' : ℕ) → SizeFaultPromise p n r → SizeFaultPromise p n r' → r ≡ r'
size_fault_once p n r r' a b = once a b

-- write hands back 0 and the counts of the chain after the closing step, and the slice then holds the bytes of the first p bits of its
-- value; or 2, there is no tag of p bits, or 3, the slice is not of its size, no counts, and the slice holds what it held
abbrev pub WritePromise : Chain → ℕ → List ℕ → TagAnswer → List ℕ → Type 0
WritePromise c p slice r after =
    (r ≡ making_answer (tag_number p (length slice)) (tagged_by p c))
    × (after ≡ making_slice (tag_number p (length slice)) (tagged_by p c) slice)

-- any two outcomes that write may have are equal, the answer and the slice
pub write_once : (c : Chain) (p : ℕ) (slice : List ℕ) (r r' : TagAnswer) (after after' : List ℕ) → WritePromise c p slice r after
    → WritePromise c p slice r' after' → (r ≡ r') × (after ≡ after')
write_once c p slice r r' after after' a b = (once a.0 b.0, once a.1 b.1)

-- compare hands back 0 where the received bits are the first p of the chain's value and then zeros, otherwise 7, and the counts; or 2 or
-- 3, as write does, and no counts
abbrev pub ComparePromise : Chain → ℕ → List ℕ → TagAnswer → Type 0
ComparePromise c p received r = r ≡ checking_answer (tag_number p (length received)) p received (tagged_by p c)

-- any two answers that compare may give are equal
pub compare_once : (c : Chain) (p : ℕ) (received : List ℕ) (r r' : TagAnswer) → ComparePromise c p received r
    → ComparePromise c p received r' → r ≡ r'
compare_once c p received r r' a b = once a b
