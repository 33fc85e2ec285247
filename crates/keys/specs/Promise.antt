-- What the public functions of this crate promise, and that each promise leaves one answer.
-- Assumes nothing.
use Rattle.std.specs.Prelude.{◌≡◌, List, ℕ}
use Rattle.laws.proofs.Once.{once}
use Rattle.block.specs.Block.{Block}
use Rattle.keys.specs.Told.{no_set}
use Rattle.keys.specs.declared.KeyAnswer.{KeyAnswer}
use Rattle.keys.specs.declared.KeySet.{KeySet}
use Rattle.keys.specs.Arrangement.{u_part, x_key}
use Rattle.keys.specs.Answer.{refused_keys, key_answer}
use Rattle.keys.specs.SetNumber.{bits_number, set_number}

-- u_part hands back what stands at the place of U_w^(j), and zeros where w is not 1 to 5 or j not 1 to 3
abbrev pub UPartPromise : List ℕ → ℕ → ℕ → Block → Type 0
UPartPromise subkeys w j r = r ≡ u_part subkeys w j

-- any two answers that u_part may give are equal
pub u_part_once : (subkeys : List ℕ) (w j : ℕ) (r r' : Block) → UPartPromise subkeys w j r → UPartPromise subkeys w j r' → r ≡ r'
u_part_once subkeys w j r r' p q = once p q

-- x_key hands back what stands at the place of K_j^xor, and zeros where j is not 1 to 4
abbrev pub XKeyPromise : List ℕ → ℕ → Block → Type 0
XKeyPromise subkeys j r = r ≡ x_key subkeys j

-- any two answers that x_key may give are equal
pub x_key_once : (subkeys : List ℕ) (j : ℕ) (r r' : Block) → XKeyPromise subkeys j r → XKeyPromise subkeys j r' → r ≡ r'
x_key_once subkeys j r r' p q = once p q

-- refused hands back its number, no steps, and the set of zeros
abbrev pub RefusedPromise : ℕ → KeyAnswer → Type 0
RefusedPromise number r = r ≡ refused_keys number

-- any two answers that refused may give are equal
pub refused_once : (number : ℕ) (r r' : KeyAnswer) → RefusedPromise number r → RefusedPromise number r' → r ≡ r'
refused_once number r r' p q = once p q

-- no_set hands back the set of zeros
abbrev pub NoSetPromise : KeySet → Type 0
NoSetPromise r = r ≡ no_set

-- any two answers that no_set may give are equal
pub no_set_once : (r r' : KeySet) → NoSetPromise r → NoSetPromise r' → r ≡ r'
no_set_once r r' p q = once p q

-- key_call hands back the answer for the order, the tag length, K and L
abbrev pub KeyCallPromise : ℕ → ℕ → List ℕ → List ℕ → KeyAnswer → Type 0
KeyCallPromise order bits K L r = r ≡ key_answer order bits K L

-- any two answers that key_call may give are equal
pub key_call_once : (order bits : ℕ) (K L : List ℕ) (r r' : KeyAnswer) → KeyCallPromise order bits K L r
    → KeyCallPromise order bits K L r' → r ≡ r'
key_call_once order bits K L r r' p q = once p q

-- bits_fault hands back 2 where there is no tag of so many bits, otherwise 0
abbrev pub BitsFaultPromise : ℕ → ℕ → Type 0
BitsFaultPromise p r = r ≡ bits_number p

-- any two answers that bits_fault may give are equal
pub bits_fault_once : (p r r' : ℕ) → BitsFaultPromise p r → BitsFaultPromise p r' → r ≡ r'
bits_fault_once p r r' a b = once a b

-- set_fault hands back the number of the first fault of a key set that is handed to a later call
abbrev pub SetFaultPromise : KeySet → ℕ → Type 0
SetFaultPromise keys r = r ≡ set_number keys

-- any two answers that set_fault may give are equal
pub set_fault_once : (keys : KeySet) (r r' : ℕ) → SetFaultPromise keys r → SetFaultPromise keys r' → r ≡ r'
set_fault_once keys r r' p q = once p q
