-- The range of a name in a string table of a file in memory.
use Rattle.std.specs.Prelude.{ℕ, ◌≡◌, ◌+◌, ◌-◌, ◌^◌, min, nat_lt, if◌then◌else◌, List, length, drop, Option, None, Some, Result, Ok, Err}
use Rattle.elf_model.specs.Prelude.{IsNameOf, is_empty_at_zero, nul_in, slice}
use Rattle.elf_model.specs.declared.causes.Cause.{Cause}
use Rattle.elf_model.specs.declared.causes.Cause.TheVariants.{NameOutside, NameUnended}
use Rattle.elf_model.specs.declared.causes.Refusal.{Refusal}
use Rattle.elf_table.specs.declared.byte_range.ByteRange.{ByteRange}

-- the bytes of a range, as far as they lie within a file
abbrev pub bytes_in_range : List ℕ → ByteRange → List ℕ
bytes_in_range file range = slice file range.at range.len

-- a name ends before a NUL
abbrev pub name_end_or_cause : Option ℕ → Result ℕ Cause
name_end_or_cause None = Err NameUnended
name_end_or_cause (Some place) = Ok place

-- the number of bytes of the name at an index of a string table, or why there is none
abbrev pub name_size : List ℕ → ℕ → Result ℕ Cause
name_size table index =
    if is_empty_at_zero table index then Ok 0
    else if nat_lt index (length table) then name_end_or_cause (nul_in (drop index table))
    else Err NameOutside

-- where that name begins; in an empty table, which may lie anywhere, at 0
abbrev pub found_name_offset : List ℕ → ByteRange → ℕ → ℕ
found_name_offset file strings index = if is_empty_at_zero (bytes_in_range file strings) index then 0 else strings.at + index

-- THE RANGE OF A NAME: bytes of the file that are the name at that index of the string table; or
-- why there is none
abbrev pub FindsName : List ℕ → ByteRange → ℕ → Result (Option ByteRange) Refusal → Type 0
FindsName file strings index (Ok (Some name)) =
    (name.at ≡ found_name_offset file strings index) × (name_size (bytes_in_range file strings) index ≡ Ok name.len) × IsNameOf (bytes_in_range file strings) index (bytes_in_range file name)
FindsName file strings index (Ok None) = ⊥
FindsName file strings index (Err refusal) =
    (refusal.at ≡ min (strings.at + index) (2 ^ 64 - 1)) × (name_size (bytes_in_range file strings) index ≡ Err refusal.cause)
