-- What the public functions of this crate promise, and that each promise leaves one answer.
-- Assumes nothing.
use Rattle.std.specs.Prelude.{◌≡◌, List, ◌++◌, ℕ, take, drop}
use Rattle.laws.proofs.Once.{once}
use Rattle.block.specs.Block.{Block, ◌⊕◌, numbered, mul2, padded, sixteen}

-- xor hands back the exclusive or of two blocks
abbrev pub XorPromise : Block → Block → Block → Type 0
XorPromise x y r = r ≡ x ⊕ y

-- any two answers that xor may give are equal
pub xor_once : (x y r r' : Block) → XorPromise x y r → XorPromise x y r' → r ≡ r'
xor_once x y r r' p q = once p q

-- numbered hands back [i]
abbrev pub NumberedPromise : ℕ → Block → Type 0
NumberedPromise i r = r ≡ numbered i

-- any two answers that numbered may give are equal
pub numbered_once : (i : ℕ) (r r' : Block) → NumberedPromise i r → NumberedPromise i r' → r ≡ r'
numbered_once i r r' p q = once p q

-- double hands back mul2 of the block
abbrev pub DoublePromise : Block → Block → Type 0
DoublePromise x r = r ≡ mul2 x

-- any two answers that double may give are equal
pub double_once : (x r r' : Block) → DoublePromise x r → DoublePromise x r' → r ≡ r'
double_once x r r' p q = once p q

-- read hands back sixteen bytes of the slice, from one on, and zeros where it has ended
abbrev pub ReadPromise : List ℕ → ℕ → Block → Type 0
ReadPromise bytes at r = r ≡ sixteen (drop at bytes)

-- any two answers that read may give are equal
pub read_once : (bytes : List ℕ) (at : ℕ) (r r' : Block) → ReadPromise bytes at r → ReadPromise bytes at r' → r ≡ r'
read_once bytes at r r' p q = once p q

-- join hands back the first n bytes of a block with a part behind them, as far as sixteen bytes go, and then zeros
abbrev pub JoinPromise : Block → ℕ → List ℕ → Block → Type 0
JoinPromise x n part r = r ≡ sixteen (take n x ++ part)

-- any two answers that join may give are equal
pub join_once : (x : Block) (n : ℕ) (part : List ℕ) (r r' : Block) → JoinPromise x n part r → JoinPromise x n part r' → r ≡ r'
join_once x n part r r' p q = once p q

-- pad hands back pad of the first n bytes of a block, of all sixteen where n is more
abbrev pub PadPromise : Block → ℕ → Block → Type 0
PadPromise x n r = r ≡ padded (take n x)

-- any two answers that pad may give are equal
pub pad_once : (x : Block) (n : ℕ) (r r' : Block) → PadPromise x n r → PadPromise x n r' → r ≡ r'
pad_once x n r r' p q = once p q
