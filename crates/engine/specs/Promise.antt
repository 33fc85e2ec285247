-- What the public functions of this crate promise, and that each promise leaves one answer.
-- Assumes nothing.
use Rattle.std.specs.Prelude.{◌≡◌, List, ℕ, take}
use Rattle.laws.proofs.Once.{once}
use Rattle.block.specs.Block.{Block}
use Rattle.chain.specs.declared.Chain.{Chain}
use Rattle.engine.specs.Engine.{chain_step, absorbed, sealed_by}

-- step hands back the chain value after the block b at place w of the cycle
abbrev pub StepPromise : List ℕ → List ℕ → ℕ → Block → Block → Block → Type 0
StepPromise round subkeys w s b r = r ≡ chain_step round subkeys w s b

-- any two answers that step may give are equal
pub step_once : (round subkeys : List ℕ) (w : ℕ) (s b r r' : Block) → StepPromise round subkeys w s b r
    → StepPromise round subkeys w s b r' → r ≡ r'
step_once round subkeys w s b r r' p q = once p q

-- absorb hands back the chain after the whole blocks of the part
abbrev pub AbsorbPromise : ℕ → List ℕ → List ℕ → ℕ → Chain → List ℕ → Chain → Type 0
AbsorbPromise d round subkeys done c part r = r ≡ absorbed d round subkeys done c part

-- any two answers that absorb may give are equal
pub absorb_once : (d : ℕ) (round subkeys : List ℕ) (done : ℕ) (c : Chain) (part : List ℕ) (r r' : Chain)
    → AbsorbPromise d round subkeys done c part r → AbsorbPromise d round subkeys done c part r' → r ≡ r'
absorb_once d round subkeys done c part r r' p q = once p q

-- seal hands back the chain after the closing step over the first n bytes of the last block, all sixteen where n is more
abbrev pub SealPromise : List ℕ → Block → Block → Chain → Block → ℕ → Chain → Type 0
SealPromise round full short c last n r = r ≡ sealed_by round full short c (take n last)

-- any two answers that seal may give are equal
pub seal_once : (round : List ℕ) (full short : Block) (c : Chain) (last : Block) (n : ℕ) (r r' : Chain)
    → SealPromise round full short c last n r → SealPromise round full short c last n r' → r ≡ r'
seal_once round full short c last n r r' p q = once p q
