-- Bytes as bits and bits as bytes. Every binary sequence is big endian: NEC's specification, section 2.1.
-- Assumes nothing.
use Rattle.std.specs.Prelude.{List, [], ◌∷◌, ◌++◌, ℕ, zero, suc, ◌+◌, ◌*◌, ◌/◌, ◌%◌, ◌^◌, take, replicate}

-- the n lowest binary digits of a number, the highest of them first
unfoldable pub binary : ℕ → ℕ → List ℕ
binary zero i = []
binary (suc n) i = i / 2 ^ n % 2 ∷ binary n i

-- the bits of a list of bytes, eight to a byte
unfoldable pub bits : List ℕ → List ℕ
bits [] = []
bits (b ∷ m) = binary 8 b ++ bits m

-- the number whose binary digits, the highest first, are those of a and then the list's
unfoldable pub value : ℕ → List ℕ → ℕ
value a [] = a
value a (b ∷ x) = value (2 * a + b) x

-- one byte of at most eight bits, filled up with zeros at its low end
abbrev pub last_byte : List ℕ → List ℕ
last_byte x = value 0 (take 8 (x ++ replicate 8 0)) ∷ []

-- the bytes of a list of bits, eight bits to a byte; what is left over fills the high end of one byte more
unfoldable pub bytes : List ℕ → List ℕ
bytes [] = []
bytes (a ∷ []) = last_byte (a ∷ [])
bytes (a ∷ b ∷ []) = last_byte (a ∷ b ∷ [])
bytes (a ∷ b ∷ c ∷ []) = last_byte (a ∷ b ∷ c ∷ [])
bytes (a ∷ b ∷ c ∷ d ∷ []) = last_byte (a ∷ b ∷ c ∷ d ∷ [])
bytes (a ∷ b ∷ c ∷ d ∷ e ∷ []) = last_byte (a ∷ b ∷ c ∷ d ∷ e ∷ [])
bytes (a ∷ b ∷ c ∷ d ∷ e ∷ f ∷ []) = last_byte (a ∷ b ∷ c ∷ d ∷ e ∷ f ∷ [])
bytes (a ∷ b ∷ c ∷ d ∷ e ∷ f ∷ g ∷ []) = last_byte (a ∷ b ∷ c ∷ d ∷ e ∷ f ∷ g ∷ [])
bytes (a ∷ b ∷ c ∷ d ∷ e ∷ f ∷ g ∷ h ∷ x) = value 0 (a ∷ b ∷ c ∷ d ∷ e ∷ f ∷ g ∷ h ∷ []) ∷ bytes x
