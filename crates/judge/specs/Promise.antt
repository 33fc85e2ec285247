-- What the public functions of this crate promise, and that each promise leaves one answer.
-- Assumes nothing.
use Rattle.std.specs.Prelude.{◌≡◌, Bool, [], ◌∷◌, ℕ, ◌+◌}
use Rattle.laws.specs.Fault.{first_fault}
use Rattle.laws.proofs.Once.{once}
use Rattle.judge.specs.declared.Stream.{Stream}
use Rattle.judge.specs.Fault.{stream_number, length_number, empty_number}

-- stream_fault hands back 4 where the stream is not well formed for the order, otherwise 0
abbrev pub StreamFaultPromise : ℕ → Stream → ℕ → Type 0
StreamFaultPromise d s r = r ≡ stream_number d s

-- any two answers that stream_fault may give are equal
pub stream_fault_once : (d : ℕ) (s : Stream) (r r' : ℕ) → StreamFaultPromise d s r → StreamFaultPromise d s r' → r ≡ r'
stream_fault_once d s r r' p q = once p q

-- length_fault hands back 5 where so many bytes and n more are together more than a message may have, otherwise 0
abbrev pub LengthFaultPromise : ℕ → ℕ → ℕ → Type 0
LengthFaultPromise total n r = r ≡ length_number (total + n)

-- any two answers that length_fault may give are equal
pub length_fault_once : (total n r r' : ℕ) → LengthFaultPromise total n r → LengthFaultPromise total n r' → r ≡ r'
length_fault_once total n r r' p q = once p q

-- empty_fault hands back 6 where there are no bytes and the message may not be empty, otherwise 0
abbrev pub EmptyFaultPromise : Bool → ℕ → ℕ → Type 0
EmptyFaultPromise mayBeEmpty n r = r ≡ empty_number mayBeEmpty n

-- any two answers that empty_fault may give are equal
pub empty_fault_once : (mayBeEmpty : Bool) (n r r' : ℕ) → EmptyFaultPromise mayBeEmpty n r → EmptyFaultPromise mayBeEmpty n r' → r ≡ r'
empty_fault_once mayBeEmpty n r r' p q = once p q

-- first hands back the first of two numbers that is not 0, and 0 where both are
abbrev pub FirstPromise : ℕ → ℕ → ℕ → Type 0
FirstPromise a b r = r ≡ first_fault (a ∷ b ∷ [])

-- any two answers that first may give are equal
pub first_once : (a b r r' : ℕ) → FirstPromise a b r → FirstPromise a b r' → r ≡ r'
first_once a b r r' p q = once p q
