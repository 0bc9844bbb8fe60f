-- How rows are shown if they are filtered by name.
use Rattle.std.specs.Prelude.{ℕ, Bool, List, map, max, min, if◌then◌else◌}
use Rattle.elf_model.specs.Prelude.{ListingStyle, RowsOf, most_bytes, wanted_text}

-- the least number of bytes of a name that are compared: if versions are shown, no fewer than are
-- shown
abbrev pub least_cap : (versions : Bool) → ℕ → ℕ
least_cap versions cap = if versions then cap else 1

-- how many are compared: as many as the longest of the names has
abbrev pub named_cap : List (List ℕ) → (least : ℕ) → ℕ
named_cap names least = min (max (most_bytes names) least) 4096

-- HOW ROWS ARE SHOWN if only those are whose name, with its version, matches one of these:
-- otherwise unchanged
abbrev pub named_style : List (List ℕ) → ListingStyle → ListingStyle
named_style names style =
    record (style) {
      cap = named_cap names (least_cap style.versions style.cap);
      choice = RowsOf (map (wanted_text style.versions) names);
    }
