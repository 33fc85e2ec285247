-- The cipher of FIPS 197, section 5.1 (Figure 5), with ten rounds, over a key schedule of 176 bytes, sixteen to a round key.
-- Assumes nothing.
use Rattle.std.specs.Prelude.{ℕ, zero, suc, ◌+◌, ◌*◌, List, get_or}
use Rattle.state.specs.State.{State, grid, load, store, sub_bytes, shift_rows, mix_columns, add_round_key}

-- 5.1.4: round key i of a schedule: its words 4i to 4i + 3 are the columns
abbrev pub round_key : List ℕ → ℕ → State
round_key w i = grid (λ r c. get_or w (16 * i + (r + 4 * c)) 0)

-- 5.1: what a round does before its key is added
unfoldable pub unkeyed_round : State → State
unkeyed_round s = mix_columns (shift_rows (sub_bytes s))

-- 5.1: a round, the key given as a state
unfoldable pub keyed_round : State → State → State
keyed_round s k = add_round_key (unkeyed_round s) k

-- 5.1: the last round has no MixColumns
unfoldable pub last_round : State → State → State
last_round s k = add_round_key (shift_rows (sub_bytes s)) k

-- 5.1: rounds 1 to n under round keys 1 to n
unfoldable pub rounds : List ℕ → State → ℕ → State
rounds w s zero = s
rounds w s (suc n) = keyed_round (rounds w s n) (round_key w (suc n))

-- 5.1: the cipher E of a block: round key 0 is added, nine rounds follow, and the last
unfoldable pub cipher : List ℕ → List ℕ → List ℕ
cipher w block = store (last_round (rounds w (add_round_key (load block) (round_key w 0)) 9) (round_key w 10))
