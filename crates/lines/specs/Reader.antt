-- A reader, to which an input comes character by character: it keeps the session and the line so far, and tells the answer to a line at
-- its line feed. What is kept of a line does not grow with it.
-- Assumes nothing.
use Rattle.std.specs.Prelude.{List, [], ◌∷◌, ◌++◌, ℕ, ◌+◌, ◌-◌, eqb, ltb, length, take}
use Rattle.laws.specs.Pick.{pick}
use Rattle.lines.specs.Lines.{line_feed}

-- how many characters of a line are kept: as many as make it too long
abbrev pub kept_chars : ℕ
kept_chars = 511

-- what is kept of a line
abbrev pub kept_line : List ℕ → List ℕ
kept_line l = take kept_chars l

-- a reader: the session so far, and what is kept of the line that is begun
pub record Reader (A : Type 0) : Type 0 where
  pub session : A
  pub line : List ℕ

-- a session becomes another by a line
module _ {A : Type 0} (turn : A → List ℕ → A) where
  -- the reader after a character
  unfoldable pub next : Reader A → ℕ → Reader A
  next r c =
      pick (eqb c line_feed) (record { session = turn r.session r.line; line = [] })
      (record { session = r.session; line = kept_line (r.line ++ (c ∷ [])) })

  -- and after some characters
  unfoldable pub reads : Reader A → List ℕ → Reader A
  reads r [] = r
  reads r (c ∷ cs) = reads (next r c) cs

-- a session tells the answer to a line
module _ {A : Type 0} (tell : A → List ℕ → List ℕ) where
  -- what the reader says at a character
  unfoldable pub says : Reader A → ℕ → List ℕ
  says r c = pick (eqb c line_feed) (tell r.session r.line) []

module _ {A : Type 0} (turn : A → List ℕ → A) (tell : A → List ℕ → List ℕ) where
  -- what it says over some characters
  unfoldable pub said : Reader A → List ℕ → List ℕ
  said r [] = []
  said r (c ∷ cs) = says tell r c ++ said (next turn r c) cs

  -- how many of some characters are taken, with room for so many bytes of answers: it goes on for as long as there is room for another
  -- answer, which has at most `width` bytes
  unfoldable pub takes : ℕ → Reader A → ℕ → List ℕ → ℕ
  takes width r room [] = 0
  takes width r room (c ∷ cs) = pick (ltb room width) 0 (1 + takes width (next turn r c) (room - length (says tell r c)) cs)

-- at the end of an input, a line that is begun gets the line feed that it lacks
unfoldable pub closing : {A : Type 0} → Reader A → List ℕ
closing r = pick (eqb (length r.line) 0) [] (line_feed ∷ [])
