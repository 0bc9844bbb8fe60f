-- Which windows of a segment are marked, since bytes that are stored meet them.
use Rattle.std.specs.Prelude.{ℕ, ◌+◌, ◌*◌, ◌==◌, ◌&&◌, ◌||◌, nat_lt, not, Bool, false, List, length, filter, get_or}
use Rattle.elf_model.specs.Apply.{places_from}

-- bytes at an offset meet the window of an index, by the size of windows
abbrev pub meets_range : (window index offset width : ℕ) → Bool
meets_range window index offset width =
    nat_lt offset (window * index + window) && (nat_lt (window * index) (offset + width) && not (width == 0))

-- a window is marked; those after the first 4,096 are
abbrev pub is_window_marked : List Bool → (index : ℕ) → Bool
is_window_marked met index = not (nat_lt index 4096) || get_or met index false

-- how many of the first windows are marked
unfoldable pub marked_windows : List Bool → (count : ℕ) → ℕ
marked_windows met count = length (filter (λ k. is_window_marked met k) (places_from (λ k. k) 0 count))
