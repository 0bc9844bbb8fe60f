-- What is read of a shared library before its symbols: its tables, and the names of its versions, by
-- its bytes, or the first refusal.
use Rattle.std.specs.Prelude.{ℕ, ◌≡◌, ◌+◌, ◌*◌, ◌<◌, ◌≤◌, ◌^◌, ◌==◌, if◌then◌else◌, false, List, [], length, Option, None, Some, Result, Ok, Err, option_map}
use Rattle.elf_model.specs.Checks.{Check, first_refusal, strings_checks}
use Rattle.elf_model.specs.HeaderTables.{file_sections, first_typed}
use Rattle.elf_model.specs.LinkArchives.{refusal_of}
use Rattle.elf_model.specs.LinkSymbols.{as_any, table_checks_in}
use Rattle.elf_model.specs.Numbers.{SHT_DYNAMIC, SHT_DYNSYM, SHT_GNU_VERDEF, SHT_GNU_VERNEED, SHT_GNU_VERSYM}
use Rattle.elf_model.specs.Records.{section_at, sh_offset, sh_size}
use Rattle.elf_model.specs.Tables.{all_checks, dynamic_table_checks, nothing_linked, section_bytes, section_table, strings_of}
use Rattle.elf_model.specs.VersionRows.{version_table}
use Rattle.elf_model.specs.Versions.{VERSYM_SIZE}
use Rattle.elf_model.specs.declared.causes.Refusal.{Refusal}
use Rattle.elf_model.specs.declared.link_states.LinkRefusal.{LinkRefusal}
use Rattle.elf_model.specs.declared.versions.VersionKind.{VersionKind}
use Rattle.elf_model.specs.declared.versions.VersionKind.TheVariants.{Definition, File}
use Rattle.elf_resolve.specs.LibraryKeys.{LibraryVersions}
use Rattle.elf_resolve.specs.LibraryTables.{HoldsLibrary, HoldsSomeIndexes}
use Rattle.elf_resolve.specs.LibraryVersions.{NumberedName, version_names}
use Rattle.elf_resolve.specs.ObjectParts.{as_any_refusal}
use Rattle.elf_resolve.specs.StringBuffers.{HoldsText}
use Rattle.elf_resolve.specs.Taken.{IsLinkFault}
use Rattle.elf_resolve.specs.VersionWalks.{HoldsVersionNames, HoldsVersions}
use Rattle.elf_resolve.specs.declared.library.DynamicRows.{DynamicRows}
use Rattle.elf_resolve.specs.declared.library.LibraryTables.{LibraryTables}
use Rattle.elf_resolve.specs.declared.library.VersionRows.{VersionRows}
use Rattle.elf_resolve.specs.declared.link_faults.LinkFault.{LinkFault}
use Rattle.elf_resolve.specs.declared.string_buffer.HeldText.{HeldText}
use Rattle.elf_resolve.specs.declared.version_room.VersionNames.{VersionNames}
use Rattle.elf_resolve.specs.declared.version_records.VersionSection.{VersionSection}
use Rattle.elf_table.specs.Tables.{TableRange}

-- the header of the first section of a type, if the file has one, and the checks of that section
abbrev pub header_of_type : List ℕ → (kind : ℕ) → Option ℕ
header_of_type file kind = option_map (section_at file) (first_typed (file_sections file) kind)

abbrev pub checks_if : (List ℕ → ℕ → List Check) → List ℕ → (header : Option ℕ) → List Check
checks_if checks file None = []
checks_if checks file (Some at) = checks file at

abbrev pub version_index_checks : List ℕ → ℕ → List Check
version_index_checks file at = all_checks (section_table VERSYM_SIZE nothing_linked) file at

abbrev pub version_record_checks : List ℕ → ℕ → List Check
version_record_checks file at = all_checks version_table file at

-- a result, unless a check before it refuses
abbrev pub unless_refused : {A : Type 0} → Option Refusal → Result A LinkRefusal → Result A LinkRefusal
unless_refused None rest = rest
unless_refused (Some refusal) rest = Err (as_any refusal)

-- THE NAMES OF THE VERSIONS in a section of definitions, or of needs, if the file has it and it has bytes
abbrev pub names_of_header : VersionKind → List ℕ → (header : Option ℕ) → Result (List NumberedName) LinkRefusal
names_of_header kind file None = Ok []
names_of_header kind file (Some at) =
    if sh_size file at == 0 then Ok [] else unless_refused (first_refusal (version_record_checks file at)) (version_names kind file at)

abbrev pub defined_names : List ℕ → Result (List NumberedName) LinkRefusal
defined_names file = names_of_header Definition file (header_of_type file SHT_GNU_VERDEF)

abbrev pub needed_names : List ℕ → Result (List NumberedName) LinkRefusal
needed_names file = names_of_header File file (header_of_type file SHT_GNU_VERNEED)

abbrev pub versions_named : (indexes : Option ℕ) → (defined needed : Result (List NumberedName) LinkRefusal) → Result LibraryVersions LinkRefusal
versions_named indexes (Err refusal) needed = Err refusal
versions_named indexes (Ok defined) (Err refusal) = Err refusal
versions_named indexes (Ok defined) (Ok needed) = Ok (record { indexes = indexes; defined = defined; needed = needed })

-- THE VERSIONS OF A LIBRARY: they have names if there are symbols and version indexes
abbrev pub versions_with : (symbols indexes : Option ℕ) → (defined needed : Result (List NumberedName) LinkRefusal) → Result LibraryVersions LinkRefusal
versions_with (Some table) (Some at) defined needed = versions_named (Some at) defined needed
versions_with (Some table) None defined needed = versions_named None (Ok []) (Ok [])
versions_with None indexes defined needed = versions_named indexes (Ok []) (Ok [])

-- what follows the checks of the symbols, the dynamic entries and the version indexes, in this order
unfoldable pub library_versions : List ℕ → Result LibraryVersions LinkRefusal
library_versions file =
    unless_refused (first_refusal (table_checks_in file (first_typed (file_sections file) SHT_DYNSYM)))
    (unless_refused (first_refusal (checks_if dynamic_table_checks file (header_of_type file SHT_DYNAMIC)))
    (unless_refused (first_refusal (checks_if version_index_checks file (header_of_type file SHT_GNU_VERSYM)))
    (versions_with (first_typed (file_sections file) SHT_DYNSYM) (header_of_type file SHT_GNU_VERSYM) (defined_names file) (needed_names file))))

-- THE ROWS OF A SECTION are its bytes; if there are some, they end in the file
pub record AreBytesOf (file : List ℕ) (at : ℕ) (table : TableRange) : Type 0 where
  pub placed : table.at ≡ sh_offset file at
  pub sized : table.count * table.entry ≡ sh_size file at
  pub within : 0 < table.count → table.at + table.count * table.entry ≤ length file

-- the rows and the strings of a section are read, or refused
pub record ReadNamedRows (file bytes : List ℕ) (at : ℕ) (texts : HeldText × HeldText) : Type 0 where
  pub pass : first_refusal (strings_checks file at) ≡ None
  pub rows : HoldsText bytes texts.0 (section_bytes file at)
  pub strings : HoldsText bytes texts.1 (strings_of file at)
  pub whole : length (section_bytes file at) ≡ sh_size file at

abbrev pub ReadsNamedRows : (file bytes : List ℕ) → (at : ℕ) → Result (HeldText × HeldText) LinkFault → Type 0
ReadsNamedRows file bytes at (Ok texts) = ReadNamedRows file bytes at texts
ReadsNamedRows file bytes at (Err fault) = IsLinkFault (as_any_refusal (first_refusal (strings_checks file at))) fault

-- THE DYNAMIC ENTRIES and their strings, in the section whose header is at an offset
pub record HoldsDynamic (file bytes : List ℕ) (at : ℕ) (dynamic : DynamicRows) : Type 0 where
  pub rows : HoldsText bytes dynamic.rows (section_bytes file at)
  pub strings : HoldsText bytes dynamic.strings (strings_of file at)
  pub whole : length (section_bytes file at) ≡ sh_size file at
  pub at_is : dynamic.at ≡ sh_offset file at
  pub fits : dynamic.at + sh_size file at < 2 ^ 64

abbrev pub HoldsSomeDynamic : (file bytes : List ℕ) → (header : Option ℕ) → Option DynamicRows → Type 0
HoldsSomeDynamic file bytes header None = (at : ℕ) → header ≡ Some at → sh_size file at ≡ 0
HoldsSomeDynamic file bytes header (Some dynamic) = (at : ℕ) × (header ≡ Some at) × HoldsDynamic file bytes at dynamic

abbrev pub ReadsDynamic : (file bytes : List ℕ) → (header : Option ℕ) → Result (Option DynamicRows) LinkFault → Type 0
ReadsDynamic file bytes header (Ok dynamic) = (first_refusal (checks_if dynamic_table_checks file header) ≡ None) × HoldsSomeDynamic file bytes header dynamic
ReadsDynamic file bytes header (Err fault) = IsLinkFault (as_any_refusal (first_refusal (checks_if dynamic_table_checks file header))) fault

-- THE VERSION INDEXES are read, or refused
abbrev pub ReadsIndexes : (file bytes : List ℕ) → (header : Option ℕ) → Result (Option VersionRows) LinkFault → Type 0
ReadsIndexes file bytes header (Ok indexes) = (first_refusal (checks_if version_index_checks file header) ≡ None) × HoldsSomeIndexes file bytes header indexes
ReadsIndexes file bytes header (Err fault) = IsLinkFault (as_any_refusal (first_refusal (checks_if version_index_checks file header))) fault

-- A SECTION OF RECORDS is read, or refused; none without bytes
pub record ReadVersionRecords (file bytes : List ℕ) (at : ℕ) (section : VersionSection) : Type 0 where
  pub some : (sh_size file at == 0) ≡ false
  pub pass : first_refusal (version_record_checks file at) ≡ None
  pub holds : HoldsVersions file bytes at section

abbrev pub ReadsVersionRecords : (file bytes : List ℕ) → (header : Option ℕ) → Result (Option VersionSection) LinkFault → Type 0
ReadsVersionRecords file bytes header (Ok None) = (at : ℕ) → header ≡ Some at → sh_size file at ≡ 0
ReadsVersionRecords file bytes header (Ok (Some section)) = (at : ℕ) × (header ≡ Some at) × ReadVersionRecords file bytes at section
ReadsVersionRecords file bytes header (Err fault) = IsLinkFault (as_any_refusal (first_refusal (checks_if version_record_checks file header))) fault

-- no version has a name, for any buffer
abbrev pub HaveNoNames : List (Option HeldText) → Type 0
HaveNoNames texts = (bytes : List ℕ) → HoldsVersionNames bytes texts []

-- THE NAMES of a section are read, or refused
abbrev pub ReadsNamesOfVersions : Result (List NumberedName) LinkRefusal → (bytes : List ℕ) → List (Option HeldText) → Result (Unit {0}) LinkFault → Type 0
ReadsNamesOfVersions known bytes texts (Ok done) = (names : List NumberedName) × (known ≡ Ok names) × HoldsVersionNames bytes texts names
ReadsNamesOfVersions known bytes texts (Err fault) = IsLinkFault (refusal_of known) fault

-- those of both sections
pub record ReadVersionNames (file bytes : List ℕ) (texts : VersionNames) : Type 0 where
  pub defined : List NumberedName
  pub needed : List NumberedName
  pub defined_are : defined_names file ≡ Ok defined
  pub needed_are : needed_names file ≡ Ok needed
  pub holds_defined : HoldsVersionNames bytes texts.defined.items defined
  pub holds_needed : HoldsVersionNames bytes texts.needed.items needed

abbrev pub ReadsVersionNames : (file bytes : List ℕ) → VersionNames → Result (Unit {0}) LinkFault → Type 0
ReadsVersionNames file bytes texts (Ok done) = ReadVersionNames file bytes texts
ReadsVersionNames file bytes texts (Err fault) = IsLinkFault (refusal_of (versions_named None (defined_names file) (needed_names file))) fault

-- A LIBRARY IS READ, or refused
pub record ReadLibrary (file bytes : List ℕ) (row : ℕ) (texts : VersionNames) (tables : LibraryTables) : Type 0 where
  pub versions : LibraryVersions
  pub known : library_versions file ≡ Ok versions
  pub holds : HoldsLibrary file bytes tables texts versions
  pub dynamic : HoldsSomeDynamic file bytes (header_of_type file SHT_DYNAMIC) tables.dynamic
  pub row_is : tables.row ≡ row

abbrev pub ReadsLibrary : (file bytes : List ℕ) → (row : ℕ) → VersionNames → Result LibraryTables LinkFault → Type 0
ReadsLibrary file bytes row texts (Ok tables) = ReadLibrary file bytes row texts tables
ReadsLibrary file bytes row texts (Err fault) = IsLinkFault (refusal_of (library_versions file)) fault
