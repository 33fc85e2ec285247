-- Figures of steps, proved, and the three tables of figures that the outline marks P, joined in one statement.
-- Assumes nothing.
use Rattle.std.specs.Prelude.{◌≡◌, List, [], ◌∷◌, ℕ, length}
use Rattle.laws.specs.Each.{Each}
use Rattle.field.specs.Figures.{SubstitutionsHold}
use Rattle.block.specs.Figures.{DoublingsHold}
use Rattle.pcmac.specs.Taggen.{Keys, taggen}

-- an order and a number of bytes, and the steps of each kind that a message of so many bytes takes, closing included
pub record StepRow : Type 0 where
  pub order : ℕ
  pub bytes : ℕ
  pub whole : ℕ
  pub four : ℕ

-- (order, bytes: whole, four-round)
abbrev pub row : ℕ → ℕ → ℕ → ℕ → StepRow
row d n w g = record { order = d; bytes = n; whole = w; four = g }

-- the table
abbrev pub step_rows : List StepRow
step_rows =
    row 1 1 1 0 ∷ row 1 16 1 0 ∷ row 1 17 2 0 ∷ row 1 33 2 1 ∷ row 2 112 3 4 ∷ row 2 113 4 4 ∷ row 5 97 2 5
    ∷ row 5 113 3 5 ∷ []

-- for every message of that many bytes, under any keys and at any tag length, the counts that Algorithm 2.2 produces are the row's
abbrev pub Takes : StepRow → Type 0
Takes r =
    (k : Keys) (p : ℕ) (M : List ℕ) → length M ≡ r.bytes
    → ((taggen k r.order p M).whole ≡ r.whole) × ((taggen k r.order p M).four ≡ r.four)

-- Algorithm 2.2 gives each row of the table
abbrev pub StepsHold : Type 0
StepsHold = Each Takes step_rows

-- the three tables: steps, doubling, substitution
abbrev pub FiguresHold : Type 0
FiguresHold = StepsHold × DoublingsHold × SubstitutionsHold
