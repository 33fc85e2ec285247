-- What the private functions of src/subkeys.rt say of themselves, as they fill the array of the subkeys. No promise speaks of these
-- definitions, and no reader need believe them: that they give KEYSCH's subkeys, with its steps, is proved (`taken_is`).
-- Assumes nothing.
use Rattle.std.specs.Prelude.{List, ℕ, zero, suc, ◌+◌, ◌-◌, ◌*◌, ◌/◌, ◌%◌, eqb, get_or, replicate}
use Rattle.laws.specs.Agree.{table}
use Rattle.laws.specs.Pick.{pick}
use Rattle.block.specs.Block.{Block, ◌⊕◌, numbered}
use Rattle.keys.specs.declared.subkeys.Taken.{Taken}

-- byte i of the array with a block at place n
abbrev pub laid_at : List ℕ → ℕ → Block → ℕ → ℕ
laid_at subkeys n block i = pick (eqb (i / 16) n) (get_or block (i % 16) 0) (get_or subkeys i 0)

-- the array with a block at place n
unfoldable pub laid : List ℕ → ℕ → Block → List ℕ
laid subkeys n block = table (laid_at subkeys n block) 304

-- one step more, with its block at place n
unfoldable pub stored : Taken → ℕ → Block → Taken
stored t n block = record { subkeys = laid t.subkeys n block; steps = t.steps + 1 }

-- n steps more, their counters from one number on and their places from another
unfoldable pub ran : (Block → Block) → Block → ℕ → ℕ → Taken → ℕ → Taken
ran e L place counter t zero = t
ran e L place counter t (suc n) = stored (ran e L place counter t n) (place + n) (e (L ⊕ numbered (counter + n)))

-- no step
abbrev pub untaken : Taken
untaken = record { subkeys = replicate 304 0; steps = 0 }

-- 3d steps for the parts, and d - 1 for the auxiliary keys
unfoldable pub taken : (Block → Block) → Block → ℕ → Taken
taken e L d = ran e L 15 (3 * d) (ran e L 0 0 untaken (3 * d)) (d - 1)
