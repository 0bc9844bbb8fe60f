-- The largest number of bytes of a field of a line, in columns or in an object, by the length of
-- its key.
use Rattle.std.specs.Prelude.{ℕ, ◌+◌}

-- a number of 64 bits
abbrev pub number_room : ℕ → ℕ
number_room key = key + 24

-- a number of 16 bits
abbrev pub half_room : ℕ → ℕ
half_room key = key + 9

-- a text or a name of at most a given number of bytes, and at least ten: each may have a backslash
-- before it
abbrev pub text_room : ℕ → ℕ → ℕ
text_room key most = key + 6 + most + most
