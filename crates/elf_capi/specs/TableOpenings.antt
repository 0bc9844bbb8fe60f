-- The result of opening a table of a file in memory.
use Rattle.std.specs.Prelude.{ℕ, ◌≡◌, ◌<◌, ◌≤◌, ◌==◌, ◌⊎◌, Bool, true, false, List, Option, None, Some, Result, Ok, Err, option_map}
use Rattle.elf_model.specs.Prelude.{SHT_DYNAMIC, SHT_GNU_VERSYM, SHT_RELA, all_checks, e_shnum, first_refusal, is_symbol_table, section_at, sh_type, symbol_versions}
use Rattle.elf_model.specs.declared.causes.Refusal.{Refusal}
use Rattle.elf_table.specs.Prelude.{AreRelocations, RefusedBy, Relocates, StringTableRange, TableRange as Table, section_names, symbols_at}
use Rattle.elf_table.specs.declared.fault.Fault.{Fault}
use Rattle.elf_table.specs.declared.fault.Fault.TheVariants.{Refused}
use Rattle.elf_capi.specs.DynamicTables.{IsDynamicTable}
use Rattle.elf_capi.specs.ListedEntries.{all_listed}
use Rattle.elf_capi.specs.Rows.{rows_from_first}
use Rattle.elf_capi.specs.VersionRecords.{version_words}
use Rattle.elf_capi.specs.declared.kind.RowKind.{RowKind}
use Rattle.elf_capi.specs.declared.kind.RowKind.TheVariants.{Symbols, Relocations, Dynamic, VersionWords}
use Rattle.elf_capi.specs.Checked.{load_refused}
use Rattle.elf_table.specs.declared.byte_range.ByteRange.{ByteRange}
use Rattle.elf_capi.specs.declared.rows.RowPosition.{RowPosition}

-- a section whose header is at an offset holds rows of a kind, by its type
abbrev pub holds : RowKind → List ℕ → ℕ → Bool
holds Symbols file at = is_symbol_table file at
holds Relocations file at = sh_type file at == SHT_RELA
holds Dynamic file at = sh_type file at == SHT_DYNAMIC
holds VersionWords file at = sh_type file at == SHT_GNU_VERSYM

-- the string table of the symbols that relocation entries refer to; no bytes if they refer to none
abbrev pub linked_names : Option (Table × StringTableRange) → StringTableRange
linked_names None = record { at = 0; size = 0 }
linked_names (Some symbols) = symbols.1

-- the rows of a kind of the section with this header, whose checks pass: symbols with their string
-- table; relocation entries with the string table of the symbols that they refer to; dynamic
-- entries up to and including the first DT_NULL, with their string table; entries of symbols'
-- versions
abbrev AreOpenedRows : RowKind → List ℕ → ℕ → RowPosition → Type 0
AreOpenedRows Symbols file at rows = (table : Table) × (names : StringTableRange) × (symbols_at file at ≡ Ok (table, names)) × (rows ≡ rows_from_first table names)
AreOpenedRows Relocations file at rows =
    (table : Table) × (linked : Option (Table × StringTableRange)) × (table.entry ≡ 24) × AreRelocations file at table linked × (rows ≡ rows_from_first table (linked_names linked))
AreOpenedRows Dynamic file at rows =
    (table : Table) × (names : StringTableRange) × IsDynamicTable file at (Ok (table, names)) × (rows ≡ all_listed file (rows_from_first table names))
AreOpenedRows VersionWords file at rows = (first_refusal (all_checks symbol_versions.checks file at) ≡ None) × (rows ≡ version_words file at)

-- the first check of such a table that fails
abbrev RefusesRows : RowKind → List ℕ → ℕ → Fault → Type 0
RefusesRows Symbols file at fault = symbols_at file at ≡ Err fault
RefusesRows Relocations file at fault = Relocates file at (Err fault)
RefusesRows Dynamic file at fault = IsDynamicTable file at (Err fault)
RefusesRows VersionWords file at fault = RefusedBy (all_checks symbol_versions.checks file at) fault

-- those rows, or that check
abbrev pub OpensTable : RowKind → List ℕ → ℕ → Result RowPosition Fault → Type 0
OpensTable kind file at (Ok rows) = AreOpenedRows kind file at rows
OpensTable kind file at (Err fault) = RefusesRows kind file at fault

-- the file has a section at this index, and it holds rows of a kind
abbrev HasRows : RowKind → List ℕ → ℕ → Type 0
HasRows kind file section = (section < e_shnum file) × (holds kind file (section_at file section) ≡ true)

-- it has none, or the section holds no such rows
abbrev LacksRows : RowKind → List ℕ → ℕ → Type 0
LacksRows kind file section = (e_shnum file ≤ section) ⊎ (holds kind file (section_at file section) ≡ false)

-- WHAT A CALLER HAS of a section of rows of a kind: its rows, whose checks pass; or that there is
-- no such section; or the first check that fails, until the section headers are loaded or of the
-- table
abbrev pub ReadsRows : RowKind → List ℕ → ℕ → ℕ → Result (Option RowPosition) Refusal → Type 0
ReadsRows kind file headers section (Ok (Some rows)) = (load_refused file headers ≡ None) × HasRows kind file section × AreOpenedRows kind file (section_at file section) rows
ReadsRows kind file headers section (Ok None) = (load_refused file headers ≡ None) × LacksRows kind file section
ReadsRows kind file headers section (Err refusal) =
    (load_refused file headers ≡ Some refusal)
    ⊎ ((load_refused file headers ≡ None) × HasRows kind file section × RefusesRows kind file (section_at file section) (Refused refusal))

-- the range of a string table
abbrev range_of : StringTableRange → ByteRange
range_of names = record { at = names.at; len = names.size }

-- WHAT A CALLER HAS of the section names: their string table; or that there is none; or the first
-- check that fails until the section headers are loaded
abbrev pub ReadsSectionNames : List ℕ → ℕ → Result (Option ByteRange) Refusal → Type 0
ReadsSectionNames file headers (Ok found) = (load_refused file headers ≡ None) × (found ≡ option_map range_of (section_names file))
ReadsSectionNames file headers (Err refusal) = load_refused file headers ≡ Some refusal
