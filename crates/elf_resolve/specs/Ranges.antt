-- Ranges of indexes.
use Rattle.std.specs.Prelude.{ℕ, ◌≤◌}

-- from an index to another, of so many elements
abbrev pub IsRangeOf : (start end count : ℕ) → Type 0
IsRangeOf start end count = (start ≤ end) × (end ≤ count)
