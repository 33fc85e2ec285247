-- A text that is told at the front of a lent space, for every text and every space. It is told where the space has room for the longest
-- text that there may be, and otherwise nothing is.
-- Assumes nothing.
use Rattle.std.specs.Prelude.{◌≡◌, List, [], ◌++◌, ℕ, leb, length, drop}
use Rattle.laws.specs.Pick.{pick}

-- what is told in a space of so many bytes, of a text that has at most so many
unfoldable pub told_in : ℕ → ℕ → List ℕ → List ℕ
told_in most room text = pick (leb most room) text []

-- a call hands back how many bytes it wrote, and the space then holds the text from its start, and is untouched behind it
abbrev pub TellsIn : ℕ → List ℕ → List ℕ → ℕ → List ℕ → Type 0
TellsIn most text space r after =
    (r ≡ length (told_in most (length space) text))
    × (after ≡ told_in most (length space) text ++ drop (length (told_in most (length space) text)) space)
