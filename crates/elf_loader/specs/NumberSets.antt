-- A set of version indices as bits.
use Rattle.std.specs.Prelude.{ℕ, ◌/◌, ◌%◌, ◌==◌, Bool, List, get_or}
use Rattle.std.specs.Int.{bit_at}

-- a version index is in the set: its bit is 1, of words of 64 bits each
abbrev pub has_number : List ℕ → ℕ → Bool
has_number words number = bit_at (get_or words (number / 64) 0) (number % 64) == 1
