-- The words in the lines of a link.
use Rattle.std.specs.Prelude.{ℕ, ◌≤◌, List, length}

-- a word fits its column, of eight bytes
abbrev pub FitsColumn : List ℕ → Type 0
FitsColumn word = length word ≤ 8
