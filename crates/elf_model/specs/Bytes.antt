-- Bytes and fields, little-endian and in whole numbers.
use Rattle.std.specs.Prelude.{ℕ, zero, suc, ◌+◌, ◌*◌, ◌/◌, ◌%◌, ◌<◌, slice_index, List, [], ◌∷◌, take, drop}

-- the number that bytes encode, the least significant byte first (gABI 4, Data Encoding)
unfoldable pub number : List ℕ → ℕ
number [] = 0
number (b ∷ bs) = b + 256 * number bs

-- the bytes of a file at an offset, this many of them, or fewer if the file ends before
abbrev pub slice : List ℕ → ℕ → ℕ → List ℕ
slice file at size = take size (drop at file)

-- the number in the field of this many bytes at an offset
unfoldable pub field : List ℕ → ℕ → ℕ → ℕ
field file at width = number (slice file at width)

-- the low bytes of a number, as many as a field has, the least significant first
unfoldable pub little : ℕ → ℕ → List ℕ
little zero n = []
little (suc width) n = n % 256 ∷ little width (n / 256)

-- each member is a byte
abbrev pub IsBytes : List ℕ → Type 0
IsBytes bytes = (i : ℕ) → slice_index bytes i < 256
