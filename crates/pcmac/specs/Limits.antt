-- The parameters of PC-MAC-AES as this library takes them: section 2.3 recommends orders 1 to 5 and allows tags of 1 to 128 bits.
-- Assumes nothing.
use Rattle.std.specs.Prelude.{ℕ, eqb}
use Rattle.laws.specs.Pick.{pick}

-- the highest order that this library takes: 2.3 recommends no higher
abbrev pub highest_order : ℕ
highest_order = 5

-- the order where none is given, a rule of this library: the one that the newer units run
abbrev pub default_order : ℕ
default_order = 2

-- the longest tag, in bits: 2.3
abbrev pub longest_tag : ℕ
longest_tag = 128

-- the tag length where none is given, in bits: section 2.3
abbrev pub default_tag : ℕ
default_tag = 128

-- the longest message that this library takes, in bytes: the document sets no limit
abbrev pub message_limit : ℕ
message_limit = 1048576

-- what is meant by a number where 0 says that none is given
unfoldable pub resolved : ℕ → ℕ → ℕ
resolved otherwise given = pick (eqb given 0) otherwise given

-- the order that is meant
abbrev pub resolved_order : ℕ → ℕ
resolved_order order = resolved default_order order

-- the tag length that is meant
abbrev pub resolved_tag : ℕ → ℕ
resolved_tag bits = resolved default_tag bits
