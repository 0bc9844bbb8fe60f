-- Laws of symbol versions: how many records are visited, where they are, which of them names a
-- version index, and how many rows the versions of symbols have.
use Rattle.std.specs.Prelude.{◌<◌, ℕ, suc, ◌≡◌, ◌+◌, ◌==◌, ◌&&◌, ◌≤◌, nat_lt, true, false, if◌then◌else◌, List, [], ◌∷◌, ◌++◌, length, None, Some}
use Rattle.std.specs.List.{All}
use Rattle.std.specs.Result.{is_ok}
use Rattle.elf_model.specs.Checks.{first_refusal, pass}
use Rattle.elf_model.specs.Choice.{EveryRow}
use Rattle.elf_model.specs.HeaderTables.{file_sections}
use Rattle.elf_model.specs.Listing.{ListingItem, VERSIONS, fault_of}
use Rattle.elf_model.specs.Names.{shown}
use Rattle.elf_model.specs.PlaceFilters.{is_placed}
use Rattle.elf_model.specs.Records.{section_at, sh_size}
use Rattle.elf_model.specs.Report.{kinds_rows}
use Rattle.elf_model.specs.Style.{ListingStyle}
use Rattle.elf_model.specs.Tables.{all_checks, entry_count}
use Rattle.elf_model.specs.VersionCost.{has_symbol_table}
use Rattle.elf_model.specs.VersionRows.{symbol_version_rows, symbol_versions, version_definitions, version_named, version_needs, version_strings, versioned_symbols}
use Rattle.elf_model.specs.Versions.{VERSYM_SIZE, VisitedRecord, RecordCursorState, max_records, record_size, record_checks, next_position, visited_at, visited_from, name_index, no_versions, with_visited, versions_in, names_version_index, named_by, VERSION_NUMBERS, number_in, number_word}
use Rattle.elf_model.specs.declared.causes.Refusal.{Refusal}
use Rattle.elf_model.specs.declared.versions.VersionKind.{VersionKind}

-- no more records are visited than could be in the table one after another
abbrev pub RecordsAreBounded : Type 0
RecordsAreBounded =
    (kind : VersionKind) (file : List ℕ) (head table size : ℕ)
    → length (versions_in kind file head table size).met ≤ max_records kind size

-- a record is in a table at an offset and of some bytes
pub record StandsInTable (table size : ℕ) (met : VisitedRecord) : Type 0 where
  pub begins : table ≤ met.at
  pub ends : met.at + record_size met.kind ≤ table + size

-- each record that is visited is in its table
abbrev pub RecordsStand : Type 0
RecordsStand =
    (kind : VersionKind) (file : List ℕ) (head table size : ℕ)
    → All (StandsInTable table size) (versions_in kind file head table size).met

-- and its index is one of those that versions may have
abbrev pub NumbersAreSmall : Type 0
NumbersAreSmall =
    (kind : VersionKind) (file : List ℕ) (head table size : ℕ)
    → All (λ met. number_in (number_word file met) < VERSION_NUMBERS) (versions_in kind file head table size).met

-- a record whose checks pass is visited, and the walk goes on where it leads
abbrev pub RecordIsVisited : Type 0
RecordIsVisited =
    (file : List ℕ) (table size : ℕ) (stand : RecordCursorState) (most : ℕ)
    → first_refusal (record_checks file table size stand) ≡ None
    → visited_from file table size (Some stand) (suc most)
    ≡ with_visited (visited_at table stand) (visited_from file table size (next_position file table stand) most)

-- at a record with a failed check it is cut
abbrev pub RecordIsRefused : Type 0
RecordIsRefused =
    (file : List ℕ) (table size : ℕ) (stand : RecordCursorState) (most : ℕ) (refusal : Refusal)
    → first_refusal (record_checks file table size stand) ≡ Some refusal
    → visited_from file table size (Some stand) (suc most) ≡ no_versions (Some refusal)

-- of some records one is the first that names the version of an index
pub record IsFirstNamed (file : List ℕ) (number : ℕ) (records : List VisitedRecord) (met : VisitedRecord) : Type 0 where
  pub before : List VisitedRecord
  pub others : List VisitedRecord
  pub parts : records ≡ before ++ met ∷ others
  pub names : names_version_index file number met ≡ true
  pub none_before : All (λ other. names_version_index file number other ≡ false) before

-- the record that names the version of an index is the first that does
abbrev pub NamedIsFirst : Type 0
NamedIsFirst =
    (file : List ℕ) (number : ℕ) (records : List VisitedRecord) (met : VisitedRecord)
    → named_by file number records ≡ Some met → IsFirstNamed file number records met

-- if there is none, no record names it
abbrev pub UnnamedHasNone : Type 0
UnnamedHasNone =
    (file : List ℕ) (number : ℕ) (records : List VisitedRecord)
    → named_by file number records ≡ None → All (λ other. names_version_index file number other ≡ false) records

-- the record that names a version index among those of two lists: that of the first, otherwise that
-- of the second
abbrev pub FirstListNamesFirst : Type 0
FirstListNamesFirst =
    (file : List ℕ) (number : ℕ) (first second : List VisitedRecord) (met : VisitedRecord)
    → named_by file number first ≡ Some met → named_by file number (first ++ second) ≡ Some met

-- if every row is shown, there is one row for each symbol that has an entry, and if the entries end
-- before the symbols one more that says so; entries past the last symbol have none
abbrev pub RowsAreSymbols : Type 0
RowsAreSymbols =
    (file : List ℕ) (style : ListingStyle) (section at : ℕ) → style.choice ≡ EveryRow → is_placed style.place ≡ false
    → (sh_size file at == 0) ≡ false
    → length (symbol_version_rows file style section at)
    ≡ (if nat_lt (entry_count file at VERSYM_SIZE) (versioned_symbols file at) then entry_count file at VERSYM_SIZE + 1
    else versioned_symbols file at)

-- the rows of all definitions and needs of a file
abbrev pub records_rows : List ℕ → ListingStyle → List ListingItem
records_rows file style =
    kinds_rows (version_definitions ∷ version_needs ∷ []) (file_sections file) file style VERSIONS

-- if they have no fault, the name of each version index is shown
abbrev pub NamesOfNumbersAreShown : Type 0
NamesOfNumbersAreShown =
    (file : List ℕ) (style : ListingStyle) (number : ℕ) (met : VisitedRecord) → fault_of (records_rows file style) ≡ None
    → version_named file number ≡ Some met
    → is_ok (shown (version_strings file met.kind) (name_index file met) style.cap) ≡ true

-- all checks of a versym section that is not empty pass exactly if its own do and a cost counts its
-- rows
abbrev pub CheckedRowsAreCounted : Type 0
CheckedRowsAreCounted =
    (file : List ℕ) (index : ℕ)
    → let at = section_at file index in
    (sh_size file at == 0) ≡ false
    → pass (all_checks symbol_versions.checks file at)
    ≡ (pass (symbol_versions.checks.own file at (length file)) && has_symbol_table (file_sections file) index (length file))
