-- The numbers that a call may give, by name.
-- Assumes nothing.
use Rattle.std.specs.Prelude.{List, [], ◌∷◌, ℕ}

-- nothing is refused
abbrev pub done : ℕ
done = 0

-- the order is above 5, or 0 in a key set
abbrev pub bad_order : ℕ
bad_order = 1

-- the tag length is above 128 bits, or 0 in a key set
abbrev pub bad_tag_length : ℕ
bad_tag_length = 2

-- K or L is not 16 bytes; a tag slice has not just the bytes of a tag; the space for a decoded line is under 255 bytes, that for an
-- encoded one under two characters a byte, or that for a frame line under 510
abbrev pub bad_size : ℕ
bad_size = 3

-- the stream is not well formed
abbrev pub bad_stream : ℕ
bad_stream = 4

-- the message is too long
abbrev pub too_long : ℕ
too_long = 5

-- there are no bytes
abbrev pub no_bytes : ℕ
no_bytes = 6

-- the tag differs
abbrev pub tag_differs : ℕ
tag_differs = 7

-- a line is above 510 characters; a frame is above 255 bytes or has no body byte before its tag; a key line is not 68 characters
abbrev pub bad_length : ℕ
bad_length = 8

-- an odd number of characters, or one that is not 0-9 or A-F
abbrev pub not_hex : ℕ
not_hex = 9

-- a body is empty, or it and its tag together are above 255 bytes
abbrev pub bad_body : ℕ
bad_body = 10

-- all of them, in the order of the outline's table, and behind them the writer's own
abbrev pub numbers : List ℕ
numbers =
    done ∷ bad_order ∷ bad_tag_length ∷ bad_size ∷ bad_stream ∷ too_long ∷ no_bytes ∷ tag_differs ∷ bad_length ∷ not_hex ∷ bad_body ∷ []
