-- Which rows of a listing are shown by where they are: all of them, or those at a byte of the file,
-- or at an address.
use Rattle.std.specs.Prelude.{ℕ, ◌+◌, ◌&&◌, ◌||◌, nat_le, nat_lt, if◌then◌else◌, is_some, Bool, true, Option, None, Some}
use Rattle.elf_model.specs.declared.place_filters.PlaceRange.{PlaceRange}
use Rattle.elf_model.specs.declared.place_filters.PlaceFilter.{PlaceFilter}
use Rattle.elf_model.specs.declared.place_filters.RowPlace.{RowPlace}

-- no bytes
abbrev pub nowhere : PlaceRange
nowhere = record { start = 0; size = 0 }

-- this many bytes from a start, if a condition is met
abbrev pub range_if : Bool → (start size : ℕ) → PlaceRange
range_if met start size = if met then record { start = start; size = size } else nowhere

-- a range has a byte; its end does not wrap
abbrev pub range_has : PlaceRange → ℕ → Bool
range_has range place = nat_le range.start place && nat_lt place (range.start + range.size)

-- every row, wherever it is
abbrev pub every_place : PlaceFilter
every_place = record { at = None; address = None }

-- a byte or an address is given
abbrev pub is_placed : PlaceFilter → Bool
is_placed filter = is_some filter.at || is_some filter.address

-- the row's record, or the bytes of the file that it describes, have the byte that is given
abbrev pub is_at : Option ℕ → RowPlace → Bool
is_at None row = true
is_at (Some place) row = range_has row.entry place || range_has row.bytes place

-- the addresses that the row describes have the one that is given
abbrev pub is_in_memory : Option ℕ → RowPlace → Bool
is_in_memory None row = true
is_in_memory (Some address) row = range_has row.memory address

-- WHICH ROWS ARE SHOWN BY THEIR PLACE: those at the byte and at the address that are given
abbrev pub shows_place : PlaceFilter → RowPlace → Bool
shows_place filter row = is_at filter.at row && is_in_memory filter.address row
