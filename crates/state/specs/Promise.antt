-- What the public functions of this crate promise, and that each promise leaves one answer.
-- Assumes nothing.
use Rattle.std.specs.Prelude.{◌≡◌, List, ℕ}
use Rattle.laws.proofs.Once.{once}
use Rattle.state.specs.State.{State, load, store, shift_rows, mix_columns, xor_word, add_round_key}

-- load hands back the state that (3.3) makes of the block
abbrev pub LoadPromise : List ℕ → State → Type 0
LoadPromise block r = r ≡ load block

-- any two answers that load may give are equal
pub load_once : (block : List ℕ) (r r' : State) → LoadPromise block r → LoadPromise block r' → r ≡ r'
load_once block r r' p q = once p q

-- store hands back the block that (3.4) makes of the state
abbrev pub StorePromise : State → List ℕ → Type 0
StorePromise s r = r ≡ store s

-- any two answers that store may give are equal
pub store_once : (s : State) (r r' : List ℕ) → StorePromise s r → StorePromise s r' → r ≡ r'
store_once s r r' p q = once p q

-- shift_rows hands back ShiftRows of the state
abbrev pub ShiftRowsPromise : State → State → Type 0
ShiftRowsPromise s r = r ≡ shift_rows s

-- any two answers that shift_rows may give are equal
pub shift_rows_once : (s r r' : State) → ShiftRowsPromise s r → ShiftRowsPromise s r' → r ≡ r'
shift_rows_once s r r' p q = once p q

-- mix_columns hands back MixColumns of the state
abbrev pub MixColumnsPromise : State → State → Type 0
MixColumnsPromise s r = r ≡ mix_columns s

-- any two answers that mix_columns may give are equal
pub mix_columns_once : (s r r' : State) → MixColumnsPromise s r → MixColumnsPromise s r' → r ≡ r'
mix_columns_once s r r' p q = once p q

-- xor_word hands back the sum of the two words
abbrev pub XorWordPromise : List ℕ → List ℕ → List ℕ → Type 0
XorWordPromise p q r = r ≡ xor_word p q

-- any two answers that xor_word may give are equal
pub xor_word_once : (p q r r' : List ℕ) → XorWordPromise p q r → XorWordPromise p q r' → r ≡ r'
xor_word_once p q r r' e e' = once e e'

-- add_round_key hands back AddRoundKey of the state and the key
abbrev pub AddRoundKeyPromise : State → State → State → Type 0
AddRoundKeyPromise s k r = r ≡ add_round_key s k

-- any two answers that add_round_key may give are equal
pub add_round_key_once : (s k r r' : State) → AddRoundKeyPromise s k r → AddRoundKeyPromise s k r' → r ≡ r'
add_round_key_once s k r r' p q = once p q
