-- What the three demands speak of.
-- Assumes nothing.
use Rattle.std.specs.Prelude.{◌≡◌, List, [], ◌∷◌, ◌++◌, ℕ, ◌-◌, ◌≤◌, ◌<◌, length, get_or, take, drop, replicate}
use Rattle.block.specs.Bits.{bits, bytes}
use Rattle.pcmac.specs.Taggen.{TAGGEN}
use Rattle.pcmac.specs.Tagver.{TAGVER}
use Rattle.keys.specs.declared.KeySet.{KeySet}
use Rattle.keys.specs.declared.KeyAnswer.{KeyAnswer}
use Rattle.keys.specs.Promise.{KeyCallPromise}
use Rattle.tag.specs.Tag.{tag_bytes}
use Rattle.hex_line.specs.Line.{encoded}
use Rattle.judge.specs.declared.Stream.{Stream}
use Rattle.stream.specs.declared.Added.{Added}
use Rattle.stream.specs.Promise.{AddPromise}

-- the key call's answer for an order, a tag length, K and L, where it is done: 0 may have been handed in for either number
pub record Made (order bits : ℕ) (K L : List ℕ) (made : KeyAnswer) : Type 0 where
  pub answered : KeyCallPromise order bits K L made
  pub done : made.number ≡ 0

-- a message of 1 to 1,048,576 bytes
pub record Message (M : List ℕ) : Type 0 where
  pub some : 1 ≤ length M
  pub most : length M ≤ 1048576

-- a frame of at most 255 bytes, with at least one before its tag of p bits
pub record Frame (p : ℕ) (f : List ℕ) : Type 0 where
  pub some : tag_bytes p < length f
  pub most : length f ≤ 255

-- where the body of a frame ends: all but the bytes of a tag of p bits
abbrev pub body_end : ℕ → List ℕ → ℕ
body_end p f = length f - tag_bytes p

-- a received tag is right for M: TAGVER gives 1 for its first p bits, those that are stated, and the spare ones behind them are zero
pub record Right (d p : ℕ) (K L M received : List ℕ) : Type 0 where
  pub stated : TAGVER d p K L M (take p (bits received)) ≡ 1
  pub spare : drop p (bits received) ≡ replicate (length (bits received) - p) 0

-- a frame is genuine: the tag behind its body is right for the body
abbrev pub Genuine : ℕ → ℕ → List ℕ → List ℕ → List ℕ → Type 0
Genuine d p K L f = Right d p K L (take (body_end p f) f) (drop (body_end p f) f)

-- the frame of a body: the body, and behind it the bytes of the tag that TAGGEN gives for it
abbrev pub frame_for : ℕ → ℕ → List ℕ → List ℕ → List ℕ → List ℕ
frame_for d p K L M = M ++ bytes (TAGGEN d p K L M)

-- and its line: two characters for each byte
abbrev pub line_for : ℕ → ℕ → List ℕ → List ℕ → List ℕ → List ℕ
line_for d p K L M = encoded (frame_for d p K L M)

-- each number of a list is a byte, as those of a slice of bytes are
abbrev pub Octets : List ℕ → Type 0
Octets l = (j : ℕ) → get_or l j 0 < 256

-- the parts of a message added to a stream, one call after the other: from s, by answers that are permitted, to t
abbrev pub AddedAll : KeySet → Stream → List (List ℕ) → Stream → Type 0
AddedAll keys s [] t = s ≡ t
AddedAll keys s (part ∷ parts) t = (a : Added) × AddPromise keys s part a × AddedAll keys a.stream parts t
