-- What the public functions of this crate promise, and that each promise leaves one answer.
-- Assumes nothing.
use Rattle.std.specs.Prelude.{◌≡◌, List, ℕ, min, take}
use Rattle.laws.proofs.Once.{once}
use Rattle.lines.specs.declared.Gathered.{Gathered}
use Rattle.lines.specs.Reader.{kept_chars}
use Rattle.lines.specs.Gather.{laid, gathered, line_end}

-- tidy hands back the first characters of a line, with zeros behind them
abbrev pub TidyPromise : List ℕ → ℕ → List ℕ → Type 0
TidyPromise line count r = r ≡ laid (take count line)

-- any two answers that tidy may give are equal
pub tidy_once : (line : List ℕ) (count : ℕ) (r r' : List ℕ) → TidyPromise line count r → TidyPromise line count r' → r ≡ r'
tidy_once line count r r' p q = once p q

-- held hands back how many characters are kept of so many
abbrev pub HeldPromise : ℕ → ℕ → Type 0
HeldPromise count r = r ≡ min count kept_chars

-- any two answers that held may give are equal
pub held_once : (count r r' : ℕ) → HeldPromise count r → HeldPromise count r' → r ≡ r'
held_once count r r' p q = once p q

-- gather hands back the line with more characters behind it, as many as are kept
abbrev pub GatherPromise : List ℕ → ℕ → List ℕ → Gathered → Type 0
GatherPromise line count more r = r ≡ gathered line count more

-- any two answers that gather may give are equal
pub gather_once : (line : List ℕ) (count : ℕ) (more : List ℕ) (r r' : Gathered) → GatherPromise line count more r
    → GatherPromise line count more r' → r ≡ r'
gather_once line count more r r' p q = once p q

-- find hands back where the line that goes on at a place of a part ends
abbrev pub FindPromise : List ℕ → ℕ → ℕ → Type 0
FindPromise part at r = r ≡ line_end part at

-- any two answers that find may give are equal
pub find_once : (part : List ℕ) (at r r' : ℕ) → FindPromise part at r → FindPromise part at r' → r ≡ r'
find_once part at r r' p q = once p q
