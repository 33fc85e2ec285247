-- The lines of an input.
-- Assumes nothing.
use Rattle.std.specs.Prelude.{List, [], ◌∷◌, ℕ, eqb}
use Rattle.laws.specs.Pick.{pick}

-- the character that ends a line
abbrev pub line_feed : ℕ
line_feed = 10

-- a character, set before the first of some lines
unfoldable pub begins : ℕ → List (List ℕ) → List (List ℕ)
begins c [] = (c ∷ []) ∷ []
begins c (l ∷ ls) = (c ∷ l) ∷ ls

-- the lines of an input: each ends with a line feed, which is no part of it, and the last may lack it
unfoldable pub lines : List ℕ → List (List ℕ)
lines [] = []
lines (c ∷ cs) = pick (eqb c line_feed) ([] ∷ lines cs) (begins c (lines cs))

-- the characters before the first line feed, or all where there is none
unfoldable pub plain : List ℕ → List ℕ
plain [] = []
plain (c ∷ cs) = pick (eqb c line_feed) [] (c ∷ plain cs)
