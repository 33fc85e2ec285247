-- Each refusal has a number of its own, which is not 0.
-- Assumes nothing.
use Rattle.std.specs.Prelude.{◌≡◌, refl, Result, Ok, Err, [], ◌∷◌, ℕ, ◌+◌, get_or}
use Rattle.std.proofs.Common.{ap, sym, ◌∙◌, IsErrAnd, arith}
use denote.Enum.Declared.{tag_of}
use Rattle.numbers.specs.contracts.Refusal.{the_type}
use Rattle.numbers.specs.declared.Refusal.{Refusal}
use Rattle.numbers.specs.declared.Refusal.TheVariants.{BadOrder, BadTagLength, BadSize, BadStream, TooLong}
use Rattle.numbers.specs.declared.Refusal.TheVariants.{NoBytes, TagDiffers, BadLength, NotHex, BadBody}
use Rattle.numbers.specs.Told.{number_of, number}

-- it is the one that stands beside its name in the code
pub as_declared : (why : Refusal) → tag_of the_type why + 1 ≡ number_of why
unfolding number_of
as_declared BadOrder = refl
as_declared BadTagLength = refl
as_declared BadSize = refl
as_declared BadStream = refl
as_declared TooLong = refl
as_declared NoBytes = refl
as_declared TagDiffers = refl
as_declared BadLength = refl
as_declared NotHex = refl
as_declared BadBody = refl

-- no refusal is told by 0
pub not_done : (why : Refusal) → number_of why ≡ 0 → ⊥
not_done why e = let t = as_declared why in omega arith

-- which refusal has a number
refusal_of : ℕ → Refusal
refusal_of n =
    get_or
    (BadOrder ∷ BadOrder ∷ BadTagLength ∷ BadSize ∷ BadStream ∷ TooLong ∷ NoBytes ∷ TagDiffers ∷ BadLength ∷ NotHex ∷ BadBody ∷ [])
    n BadOrder

found : (why : Refusal) → refusal_of (number_of why) ≡ why
unfolding number_of refusal_of
found BadOrder = refl
found BadTagLength = refl
found BadSize = refl
found BadStream = refl
found TooLong = refl
found NoBytes = refl
found TagDiffers = refl
found BadLength = refl
found NotHex = refl
found BadBody = refl

-- two refusals of one number are the same
pub number_of_once : (why why' : Refusal) → number_of why ≡ number_of why' → why ≡ why'
number_of_once why why' e = sym (found why) ∙ ap refusal_of e ∙ found why'

-- and so are two outcomes of one number
pub number_once : (r r' : Result Unit Refusal) → number r ≡ number r' → r ≡ r'
unfolding number
number_once (Ok a) (Ok b) e = refl
number_once (Ok a) (Err why') e = absurd (not_done why' (sym e))
number_once (Err why) (Ok b) e = absurd (not_done why e)
number_once (Err why) (Err why') e = ap Err (number_of_once why why' e)

-- what `?` hands on is the refusal that it met
pub handed_on : {A : Type 0} (r : Result A Refusal) {why : Refusal} → IsErrAnd r (λ y. y ≡ why) → r ≡ Err why
handed_on (Ok a) h = absurd h
handed_on (Err y) h = ap Err h
