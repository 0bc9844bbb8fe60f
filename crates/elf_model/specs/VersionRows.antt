-- The rows of symbol versions: of the records of definitions and needs, and of the versym entries.
use Rattle.std.specs.Prelude.{ℕ, ◌+◌, ◌/◌, ◌==◌, ◌||◌, min, nat_lt, not, if◌then◌else◌, List, [], ◌∷◌, ◌++◌, codes, Option, None, Some}
use Rattle.elf_model.specs.Checks.{Check, refuse, range_checks_of, strings_checks}
use Rattle.elf_model.specs.Fields.{Fields, LinePrefix, front}
use Rattle.elf_model.specs.Fields.Field.{Decimal, Hexadecimal, ArgSpec}
use Rattle.elf_model.specs.HeaderTables.{TableKind, each_entry, file_sections, first_typed}
use Rattle.elf_model.specs.Listing.{ListingItem, Fault, VERSIONS, each}
use Rattle.elf_model.specs.Names.{shown, name_bytes}
use Rattle.elf_model.specs.Numbers.{SHT_GNU_VERDEF, SHT_GNU_VERNEED, SHT_GNU_VERSYM}
use Rattle.elf_model.specs.Records.{sh_type, sh_offset, sh_size, sh_link, section_at, versym}
use Rattle.elf_model.specs.PlaceFilters.{nowhere}
use Rattle.elf_model.specs.RowPlaces.{place_of_record}
use Rattle.elf_model.specs.Rows.{chosen_row, no_name, placed_choice, refused_row}
use Rattle.elf_model.specs.Style.{ListingStyle}
use Rattle.elf_model.specs.Tables.{SYMBOL_SIZE, TableChecks, section_table, linked_at, strings_of, entry_count, entry_at, has_symbols, symbol_table_checks}
use Rattle.elf_model.specs.VersionCost.{versioned_cost}
use Rattle.elf_model.specs.Versions.{VERSYM_SIZE, DEFINITION_SIZE, DEFINED_NAME_SIZE, NEED_SIZE, VisitedRecord, Versions, number_in, number_word, flags_word, hash_word, named_at, name_index, record_size, versions_in, version_of}
use Rattle.elf_model.specs.declared.causes.Cause.TheVariants.{BadLink, VersionCut, VersionIndex}
use Rattle.elf_model.specs.declared.causes.Refusal.{Refusal}
use Rattle.elf_model.specs.declared.formats.Format.{Format}
use Rattle.elf_model.specs.declared.place_filters.RowPlace.{RowPlace}
use Rattle.elf_model.specs.declared.versions.VersionKind.{VersionKind}
use Rattle.elf_model.specs.declared.versions.VersionKind.TheVariants.{Definition, File, Need}

-- the word of a kind of record
unfoldable pub kind_text : VersionKind → List ℕ
kind_text Definition = codes "DEF"
kind_text File = codes "FILE"
kind_text Need = codes "NEED"

-- a record of definitions or needs up to its name: the index of its section, its kind, version
-- index, flags and hash
abbrev version_fields : VersionKind → (section number flags hash : ℕ) → Fields
version_fields kind section number flags hash = record {
  letter = codes "V";
  fields =
      Decimal (codes "index") 5 section
      ∷ ArgSpec (codes "kind") 4 (kind_text kind)
      ∷ Decimal (codes "number") 5 number
      ∷ Hexadecimal (codes "flags") 4 5 flags
      ∷ Hexadecimal (codes "hash") 8 8 hash
      ∷ [];
}

unfoldable pub version_prefix : Format → VersionKind → (section number flags hash : ℕ) → LinePrefix
version_prefix format kind section number flags hash =
    front format (codes "name") (version_fields kind section number flags hash)

-- a visited record: a definition also describes its first name, whose bytes have the index
abbrev pub place_of_version : List ℕ → VisitedRecord → RowPlace
place_of_version file met = record {
  entry = record { start = met.at; size = record_size met.kind };
  bytes = record { start = named_at file met; size = DEFINED_NAME_SIZE };
  memory = nowhere;
}

-- the row of a visited record, with its name in a string table
unfoldable pub version_row : List ℕ → ListingStyle → (section : ℕ) → (strings : List ℕ) → VisitedRecord → List ListingItem
version_row file style section strings met =
    chosen_row (placed_choice style (place_of_version file met) style.choice)
    (version_prefix style.format met.kind section (number_word file met) (flags_word file met) (hash_word file met))
    (named_at file met) (shown strings (name_index file met) style.cap)

-- the rows of visited records
unfoldable pub visited_rows : List ℕ → ListingStyle → (section : ℕ) → (strings : List ℕ) → List VisitedRecord → List ListingItem
visited_rows file style section strings [] = []
visited_rows file style section strings (met ∷ others) =
    version_row file style section strings met ++ visited_rows file style section strings others

-- the end of a walk: the refusal of a malformed record, if there is one
abbrev pub end_rows : Option Refusal → List ListingItem
end_rows None = []
end_rows (Some refusal) = Fault refusal ∷ []

-- the records of the section whose header is at an offset
abbrev pub section_versions : VersionKind → List ℕ → ℕ → Versions
section_versions kind file at = versions_in kind file at (sh_offset file at) (sh_size file at)

-- their rows, with the names in the string table that the section links to
unfoldable pub versions_rows : VersionKind → List ℕ → ListingStyle → ℕ → ℕ → List ListingItem
versions_rows kind file style section at =
    let versions = section_versions kind file at in
    visited_rows file style section (strings_of file at) versions.met ++ end_rows versions.cut

-- the first section of a type in a file
abbrev pub first_of_type : List ℕ → ℕ → Option ℕ
first_of_type file type = first_typed (file_sections file) type

-- the records of the first section of a type, none if there is no such section
abbrev pub first_versions : VersionKind → ℕ → List ℕ → List VisitedRecord
first_versions kind type file = elim (first_of_type file type) [
  | None ↦ []
  | Some i ↦ (section_versions kind file (section_at file i)).met
]

-- the record that names the version of an index in a file: by the first section of definitions,
-- otherwise by the first of needs
unfoldable pub version_named : List ℕ → ℕ → Option VisitedRecord
version_named file number =
    version_of file (first_versions Definition SHT_GNU_VERDEF file) (first_versions File SHT_GNU_VERNEED file) number

-- the strings that the first section of a type links to
abbrev pub first_strings : ℕ → List ℕ → List ℕ
first_strings type file = elim (first_of_type file type) [ None ↦ [] | Some i ↦ strings_of file (section_at file i) ]

-- the string table of the names of records of a kind
unfoldable pub version_strings : List ℕ → VersionKind → List ℕ
version_strings file kind =
    elim kind [
      | Definition ↦ first_strings SHT_GNU_VERDEF file
      | File ↦ first_strings SHT_GNU_VERNEED file
      | Need ↦ first_strings SHT_GNU_VERNEED file
    ]

-- the version of a symbol up to its name: the indexes of the versym section and of the symbol, the
-- version index, and whether the version is hidden
abbrev symbol_version_fields : (section index word : ℕ) → Fields
symbol_version_fields section index word = record {
  letter = codes "X";
  fields =
      Decimal (codes "table") 5 section
      ∷ Decimal (codes "index") 10 index
      ∷ Decimal (codes "number") 5 (number_in word)
      ∷ ArgSpec (codes "hidden") 1 (if word == number_in word then codes "-" else codes "H")
      ∷ [];
}

unfoldable pub symbol_version_prefix : Format → (section index word : ℕ) → LinePrefix
symbol_version_prefix format section index word = front format (codes "name") (symbol_version_fields section index word)

-- the row of a version index, from an entry at an offset: an index that a record names has its
-- name, 0 and 1 have none, and any other is refused at the entry
unfoldable pub numbered_row : List ℕ → ListingStyle → (front : LinePrefix) → (entry_at number : ℕ) → List ListingItem
numbered_row file style front entry_at number =
    let choice = placed_choice style (place_of_record entry_at VERSYM_SIZE) style.choice in
    if nat_lt number 2 then chosen_row choice front entry_at no_name
    else elim (version_named file number) [
      | None ↦ refused_row entry_at VersionIndex
      | Some met ↦ chosen_row choice front (named_at file met) (shown (version_strings file met.kind) (name_index file met) style.cap)
    ]

-- the row of a symbol's version in the section whose header is at an offset
unfoldable pub symbol_version_row : List ℕ → ListingStyle → (section at : ℕ) → ℕ → List ListingItem
symbol_version_row file style section at index =
    let entry_at = entry_at file at VERSYM_SIZE index in
    let word = versym file entry_at in
    numbered_row file style (symbol_version_prefix style.format section index word) entry_at (number_in word)

-- how many symbols the table has to which a versym section links
abbrev pub versioned_symbols : List ℕ → ℕ → ℕ
versioned_symbols file at = entry_count file (linked_at file at) SYMBOL_SIZE

-- how many rows the section has: one for each symbol that has an entry
abbrev pub versioned_count : List ℕ → ℕ → ℕ
versioned_count file at = min (entry_count file at VERSYM_SIZE) (versioned_symbols file at)

-- the rows of symbols' versions, and if a symbol has no entry any more its refusal; a section of no
-- bytes has none
unfoldable pub symbol_version_rows : List ℕ → ListingStyle → ℕ → ℕ → List ListingItem
symbol_version_rows file style section at =
    if sh_size file at == 0 then []
    else
    each (symbol_version_row file style section at) 0 (versioned_count file at)
    ++ (if nat_lt (entry_count file at VERSYM_SIZE) (versioned_symbols file at) then refused_row at VersionCut else [])

-- what a versym section links to: a symbol table, with its strings
abbrev pub symbols_checks : List ℕ → ℕ → List Check
symbols_checks file at =
    refuse (sh_link file at == 0 || not (has_symbols file at)) at BadLink ∷ symbol_table_checks file (linked_at file at)

-- a section of definitions or needs: its bytes are in the file, and it links to a string table
abbrev pub version_table : TableChecks
version_table = record {
  bytes = sh_size;
  own = λ bytes at file_size. range_checks_of file_size (sh_offset bytes at) (sh_size bytes at) at;
  linked = strings_checks;
}

-- definitions or needs (Linux Standard Base Core, Symbol Versioning), each with its name: their
-- kind, the type of the sections, the size of a record, and how many bytes one reads besides its
-- name
abbrev pub version_records : VersionKind → (type size bytes : ℕ) → TableKind
version_records kind type size bytes = record {
  part = VERSIONS;
  has_table = λ bytes at. sh_type bytes at == type;
  checks = version_table;
  asks = each_entry (λ bytes at. sh_size bytes at / size) (λ cap. bytes + name_bytes cap);
  rows = versions_rows kind;
}

unfoldable pub version_definitions : TableKind
version_definitions = version_records Definition SHT_GNU_VERDEF DEFINITION_SIZE (DEFINITION_SIZE + DEFINED_NAME_SIZE)

unfoldable pub version_needs : TableKind
version_needs = version_records File SHT_GNU_VERNEED NEED_SIZE NEED_SIZE

-- versions of symbols (Linux Standard Base Core, Symbol Versioning), each with its name
unfoldable pub symbol_versions : TableKind
symbol_versions = record {
  part = VERSIONS;
  has_table = λ bytes at. sh_type bytes at == SHT_GNU_VERSYM;
  checks = section_table VERSYM_SIZE symbols_checks;
  asks = versioned_cost;
  rows = symbol_version_rows;
}

-- the kinds of tables of symbol versions, in their order
abbrev pub version_kinds : List TableKind
version_kinds = version_definitions ∷ version_needs ∷ symbol_versions ∷ []
