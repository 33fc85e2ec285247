-- A line in an array of 511 characters, what gathering more of it answers, and where a line ends.
-- Assumes nothing.
use Rattle.std.specs.Prelude.{List, ◌++◌, ℕ, ◌+◌, length, take, drop}
use Rattle.laws.specs.Filled.{filled}
use Rattle.lines.specs.declared.Gathered.{Gathered}
use Rattle.lines.specs.Lines.{plain}
use Rattle.lines.specs.Reader.{kept_chars, kept_line}

-- characters in the array, with zeros behind them
unfoldable pub laid : List ℕ → List ℕ
laid l = filled kept_chars l

-- the line that the first characters of an array are, with more behind them
abbrev pub longer : List ℕ → ℕ → List ℕ → List ℕ
longer line count more = kept_line (take count line ++ more)

-- gathering more of it
unfoldable pub gathered : List ℕ → ℕ → List ℕ → Gathered
gathered line count more = record {
  line = laid (longer line count more);
  count = length (longer line count more);
}

-- where the line that goes on at a place of a part ends: at its line feed, or where the part does
abbrev pub line_end : List ℕ → ℕ → ℕ
line_end part at = at + length (plain (drop at part))
