-- What a program's loop over a part does, some characters at a time. No promise speaks of it, and no reader need believe it.
-- Assumes nothing.
use Rattle.std.specs.Prelude.{◌≡◌, List, ◌++◌, ℕ, ◌+◌, ◌-◌, ◌≤◌, length, take, drop}
use Rattle.lines.specs.Reader.{Reader, reads, said, takes}

-- a text of n bytes was written in a space from a place on, and all its other bytes are as they were
pub record Wrote (text space : List ℕ) (out n : ℕ) (after : List ℕ) : Type 0 where
  pub size : n ≡ length text
  pub space_is : after ≡ take out space ++ text ++ drop (out + n) space

-- for whichever session, whatever is told, and however long a text may be
module _ {A : Type 0} (turn : A → List ℕ → A) (tell : A → List ℕ → List ℕ) (width : ℕ) where
  -- a reader at a place of a part, with so much written in a space, comes to another place, with more written: it is then the reader
  -- after the characters between, behind what was written stands what it says over them, and what is taken of the others decides how
  -- many are taken in all
  pub record Moves (part : List ℕ) (r : Reader A) (at out : ℕ) (space : List ℕ) (r' : Reader A) (at' out' : ℕ) (space' : List ℕ)
      : Type 0 where
    pub taken : ℕ
    pub at_is : at' ≡ at + taken
    pub most : at' ≤ length part
    pub reader_is : r' ≡ reads turn r (take taken (drop at part))
    pub out_is : out' ≡ out + length (said turn tell r (take taken (drop at part)))
    pub room : out' ≤ length space
    pub space_is : space' ≡ take out space ++ said turn tell r (take taken (drop at part)) ++ drop out' space
    pub goes_on : takes turn tell width r (length space - out) (drop at part)
        ≡ taken + takes turn tell width r' (length space - out') (drop at' part)
