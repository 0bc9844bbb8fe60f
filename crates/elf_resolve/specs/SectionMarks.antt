-- Which sections of an object are dropped.
use Rattle.std.specs.Prelude.{ℕ, ◌≡◌, ◌<◌, ◌≤◌, ◌==◌, ◌||◌, Bool, false, List, slice_index_or}
use Rattle.std.specs.List.{list_any}

-- THE MARKS of an object with this many sections: those of some sections, by their indexes, also of
-- those that it does not have
pub record MarksDropped (count : ℕ) (marks : List Bool) (sections : List ℕ) : Type 0 where
  pub few : count ≤ 65535
  pub marked : (i : ℕ) → i < 65535 → slice_index_or marks i false ≡ list_any (λ other. other == i) sections

-- one section more is marked
abbrev pub MarksAlso : (old new : List Bool) → (section : ℕ) → Type 0
MarksAlso old new section = (i : ℕ) → i < 65535 → slice_index_or new i false ≡ (slice_index_or old i false || section == i)
