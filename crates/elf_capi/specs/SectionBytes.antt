-- The bytes of a section of a file in memory.
use Rattle.std.specs.Prelude.{ℕ, ◌≡◌, ◌<◌, ◌≤◌, ◌⊎◌, true, false, List, Option, None, Some, Result, Ok, Err}
use Rattle.elf_model.specs.Prelude.{e_shnum, first_refusal, has_no_bytes, range_checks, section_at, sh_offset, sh_size}
use Rattle.elf_model.specs.declared.causes.Refusal.{Refusal}
use Rattle.elf_capi.specs.Checked.{first_refused}
use Rattle.elf_table.specs.declared.byte_range.ByteRange.{ByteRange}

-- the range that the section with this header has in the file
abbrev pub section_range : List ℕ → ℕ → ByteRange
section_range file at = record { at = sh_offset file at; len = sh_size file at }

-- the file has a section of this index, and it has bytes there
abbrev pub HasBytes : List ℕ → ℕ → Type 0
HasBytes file index = (index < e_shnum file) × (has_no_bytes file (section_at file index) ≡ false)

-- THE RESULT for a section's bytes: their range, which lies within the file; none if the file has
-- no such section or it has no bytes there; or the first failing check
abbrev pub ReadsSectionBytes : List ℕ → ℕ → Result (Option ByteRange) Refusal → Type 0
ReadsSectionBytes file index (Ok (Some range)) =
    (first_refused file ≡ None) × HasBytes file index × (first_refusal (range_checks file (section_at file index)) ≡ None)
    × (range ≡ section_range file (section_at file index))
ReadsSectionBytes file index (Ok None) =
    (first_refused file ≡ None) × ((e_shnum file ≤ index) ⊎ (has_no_bytes file (section_at file index) ≡ true))
ReadsSectionBytes file index (Err refusal) =
    (first_refused file ≡ Some refusal)
    ⊎ ((first_refused file ≡ None) × HasBytes file index × (first_refusal (range_checks file (section_at file index)) ≡ Some refusal))
