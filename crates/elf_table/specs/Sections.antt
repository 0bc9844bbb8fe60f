-- The results for the sections of a loaded file: tables, string tables, symbols with their names.
use Rattle.std.specs.Prelude.{ℕ, ◌/◌, ◌==◌, true, false, not, List, [], ◌∷◌, ◌++◌, length, Option, None, Some, Result, Ok, Err}
use Rattle.elf_model.specs.Prelude.{Check, SHT_STRTAB, e_shstrndx, first_refusal, has_section_names, is_outside, refuse, section_at, sh_link, sh_offset, sh_size, sh_type, strings_checks, table_checks, table_checks_of, unless_empty, whole_checks_of}
use Rattle.elf_model.specs.declared.causes.Cause.TheVariants.{NotStrings, TableOutside}
use Rattle.elf_model.specs.declared.causes.Refusal.{Refusal}
use Rattle.elf_table.specs.Tables.{TableRange, StringTableRange}
use Rattle.elf_table.specs.declared.fault.Fault.{Fault}
use Rattle.elf_table.specs.declared.fault.Fault.TheVariants.{Refused}

-- a refusal if there is one, otherwise a value
abbrev pub answered : {A : Type 0} → Option Refusal → A → Result A Fault
answered None value = Ok value
answered (Some refusal) value = Err (Refused refusal)

-- the first check that fails, otherwise a value
abbrev pub checked : {A : Type 0} → List Check → A → Result A Fault
checked checks value = answered (first_refusal checks) value

-- a number of rows of one size at an offset
abbrev pub rows : ℕ → ℕ → ℕ → TableRange
rows at count entry = record { at = at; count = count; entry = entry }

-- a number of bytes of names at an offset
abbrev pub strings : ℕ → ℕ → StringTableRange
strings at size = record { at = at; size = size }

-- bytes at an offset as rows of one size, in a file of a size; an empty range has no checks, and
-- refusals point to a place
abbrev pub rows_of : ℕ → ℕ → ℕ → ℕ → ℕ → Result TableRange Fault
rows_of file_size offset size place entry =
    checked (unless_empty size (whole_checks_of file_size offset size place entry)) (rows offset (size / entry) entry)

-- the table of a section whose header is at an offset of some bytes, in a file of a size; an empty
-- one has no checks
abbrev pub table_of : List ℕ → ℕ → ℕ → ℕ → ℕ → Result TableRange Fault
table_of bytes at file_size place entry =
    elim (sh_size bytes at == 0) [
      | true ↦ Ok (rows (sh_offset bytes at) 0 entry)
      | false ↦ checked (table_checks_of bytes at file_size place entry) (rows (sh_offset bytes at) (sh_size bytes at / entry) entry)
    ]

-- the table of a section of the file
abbrev pub table_at : List ℕ → ℕ → ℕ → Result TableRange Fault
table_at file at entry = table_of file at (length file) at entry

-- the names in a section of the file
abbrev pub names_at : List ℕ → ℕ → StringTableRange
names_at file at = strings (sh_offset file at) (sh_size file at)

-- a section that is to be a string table, with the arguments of `table_of`
abbrev pub string_table_of : List ℕ → ℕ → ℕ → ℕ → Result StringTableRange Fault
string_table_of bytes at file_size place =
    checked (refuse (not (sh_type bytes at == SHT_STRTAB)) place NotStrings ∷ refuse (is_outside file_size (sh_offset bytes at) (sh_size bytes at)) place TableOutside ∷ [])
    (strings (sh_offset bytes at) (sh_size bytes at))

-- the string table that a section of the file links to
abbrev pub string_table_at : List ℕ → ℕ → Result StringTableRange Fault
string_table_at file at = checked (strings_checks file at) (names_at file (section_at file (sh_link file at)))

-- the string table of the section names
abbrev pub section_names : List ℕ → Option StringTableRange
section_names file = elim (has_section_names file) [ true ↦ Some (names_at file (section_at file (e_shstrndx file))) | false ↦ None ]

-- a number of bytes of the file as rows of one byte; an empty range has no check
abbrev pub byte_rows : ℕ → ℕ → ℕ → ℕ → Result TableRange Fault
byte_rows file_size offset size place =
    elim (size == 0) [
      | true ↦ Ok (rows offset 0 1)
      | false ↦ checked (refuse (is_outside file_size offset size) place TableOutside ∷ []) (rows offset size 1)
    ]

-- the symbols of a section of the file with their string table; two empty ones if it is empty
abbrev pub symbols_at : List ℕ → ℕ → Result (TableRange × StringTableRange) Fault
symbols_at file at =
    elim (sh_size file at == 0) [
      | true ↦ Ok (rows (sh_offset file at) 0 24, strings (sh_offset file at) 0)
      | false ↦ checked (table_checks file at 24 ++ strings_checks file at)
          (rows (sh_offset file at) (sh_size file at / 24) 24, names_at file (section_at file (sh_link file at)))
    ]
