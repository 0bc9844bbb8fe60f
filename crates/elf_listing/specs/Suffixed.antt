-- The versions after the names of symbols: how they are found, and the effect of a call that reads
-- one.
use Rattle.std.specs.Prelude.{ℕ, ◌≡◌, ◌+◌, ◌==◌, not, if◌then◌else◌, Bool, true, false, List, Option, None, Some, Result, Ok, Err, IfOk, IfSome, length, ◌⊎◌}
use Rattle.elf_model.specs.Prelude.{DisplayedName, EveryRow, HeaderTable, IsBudgetRefusal, LinePrefix, ListingItem, NoSuffix, SHN_UNDEF, SYMBOL_SIZE, Suffix, Suffixed, VERSION_NUMBERS, VERSYM_SIZE, entry_count, first_numbers, name_bytes, section_at, sh_offset, st_shndx, suffixed_row, suffixes_refusal, symbol_suffix, version_numbers_of, walks_cost}
use Rattle.elf_model.specs.declared.causes.Cause.{Cause}
use Rattle.elf_model.specs.declared.causes.Refusal.{Refusal}
use Rattle.elf_table.specs.Prelude.{NameRead, StringTableRange, TableInBounds, TableRange, shown_by}
use Rattle.elf_table.specs.declared.fault.Fault.{Fault}
use Rattle.elf_table.specs.declared.names.NameEnd.{NameEnd}
use Rattle.elf_table.specs.declared.run_fault.RunFault.{RunFault}
use Rattle.elf_table.specs.declared.fault.Fault.TheVariants.{Refused, Source}
use Rattle.elf_source.specs.declared.source.Source.{Ghosts as Sources}
use Rattle.elf_source.specs.declared.sink.Sink.{Ghosts as Sinks}
use Rattle.elf_listing.specs.Numbered.{NumberedWithin}
use Rattle.elf_listing.specs.Parts.{store_sections}
use Rattle.elf_listing.specs.Shows.{ListingReads, ListingCalls, WroteSome}
use Rattle.elf_listing.specs.SymbolVersions.{AreNumbered, IsUnnamed}
use Rattle.elf_listing.specs.declared.listing.Listing.{Listing}
use Rattle.elf_listing.specs.declared.read_suffix.VersionSuffixEnd.{VersionSuffixEnd}
use Rattle.elf_listing.specs.declared.suffixes.VersionLookup.{VersionLookup}

-- the version lookup for the symbols of the table at an index: its section of version indices, and
-- where the names of all indices are
pub record AreSuffixes (file : List ℕ) (table : ℕ) (suffixes : VersionLookup) : Type 0 where
  pub section : ℕ
  pub found : version_numbers_of file table ≡ Some section
  pub here : suffixes.at ≡ section_at file section
  pub placed : suffixes.words.at ≡ sh_offset file (section_at file section)
  pub counted : suffixes.words.count ≡ entry_count file (section_at file section) VERSYM_SIZE
  pub numbered : AreNumbered file suffixes.numbered suffixes.places

-- it lies within a source of this size, and keeps a location for each version index
pub record SuffixesWithin (size : ℕ) (suffixes : VersionLookup) : Type 0 where
  pub entry : suffixes.words.entry ≡ VERSYM_SIZE
  pub words : TableInBounds size suffixes.words
  pub names : NumberedWithin size suffixes.numbered
  pub places : length suffixes.places ≡ VERSION_NUMBERS

-- how many bytes are read before the first row of a table of n symbols, and how many for each name
abbrev pub walks_asked : HeaderTable → (table symbols size : ℕ) → ℕ
walks_asked headers table symbols size =
    if symbols == 0 then 0 else elim (first_numbers headers table) [ None ↦ 0 | Some i ↦ walks_cost headers size ]

abbrev pub suffix_bytes : HeaderTable → (table cap : ℕ) → ℕ
suffix_bytes headers table cap = elim (first_numbers headers table) [ None ↦ 0 | Some i ↦ VERSYM_SIZE + name_bytes cap ]

-- the result of the search: the lookup is found, or there is none, or it is refused
abbrev pub SuffixesOr : List ℕ → ℕ → Result (Option VersionLookup) Fault → Type 0
SuffixesOr file table (Ok None) =
    (suffixes_refusal file table ≡ None) × ((entry_count file (section_at file table) SYMBOL_SIZE ≡ 0) ⊎ (version_numbers_of file table ≡ None))
SuffixesOr file table (Ok (Some suffixes)) = (suffixes_refusal file table ≡ None) × AreSuffixes file table suffixes
SuffixesOr file table (Err (Refused refusal)) = (IsBudgetRefusal refusal → ⊥) → suffixes_refusal file table ≡ Some refusal
SuffixesOr file table (Err (Source fault at)) = Unit {0}

-- it is yet to be filled: it names no version index
abbrev pub IsUnfilled : VersionLookup → Type 0
IsUnfilled suffixes = IsUnnamed suffixes.numbered × (length suffixes.places ≡ VERSION_NUMBERS)

-- the lookup that a call filled in place, if it found it
abbrev pub lookup_found : Result Bool Fault → VersionLookup → Result (Option VersionLookup) Fault
lookup_found (Ok true) suffixes = Ok (Some suffixes)
lookup_found (Ok false) suffixes = Ok None
lookup_found (Err fault) suffixes = Err fault

-- the effect of a call that looks for it, for a table of n symbols
pub record FetchesSuffixes {S W : Type 0} {s : Sources S} {w : Sinks W} (old new : Listing S W s w) (result : Result (Option VersionLookup) Fault) (table symbols : ℕ) : Type 0 where
  pub fetches : ListingReads old new result (walks_asked (store_sections old.file.store.now) table symbols old.file.loaded.size)
  pub within : IfOk result (λ found. IfSome found (SuffixesWithin old.src.now.seen.size))
  pub pays : IfOk result (λ found. IfSome found (λ suffixes. (cap : ℕ) → suffix_bytes (store_sections old.file.store.now) table cap ≡ VERSYM_SIZE + name_bytes cap))
  pub read : (file : List ℕ) → old.src.now.seen.file ≡ Some file → symbols ≡ entry_count file (section_at file table) SYMBOL_SIZE → SuffixesOr file table result

-- the result of reading a version: none, its name, or a refusal
abbrev pub SuffixRead : Result (Option VersionSuffixEnd) Fault → List ℕ → Result Suffix Refusal → Type 0
SuffixRead (Ok None) version answer = answer ≡ Ok NoSuffix
SuffixRead (Ok (Some suffix)) version answer = answer ≡ Ok (Suffixed suffix.is_default (shown_by suffix.end version))
SuffixRead (Err (Refused refusal)) version answer = (IsBudgetRefusal refusal → ⊥) → answer ≡ Err refusal
SuffixRead (Err (Source fault at)) version answer = Unit {0}

-- the name of a version index was read, whose entry is at an offset
abbrev pub SuffixNamed : Result NameEnd Fault → List ℕ → (Bool → Result Suffix Refusal) → Type 0
SuffixNamed (Ok end) version answer = (default : Bool) → answer default ≡ Ok (Suffixed default (shown_by end version))
SuffixNamed (Err (Refused refusal)) version answer = (IsBudgetRefusal refusal → ⊥) → (default : Bool) → answer default ≡ Err refusal
SuffixNamed (Err (Source fault at)) version answer = Unit {0}

-- the effect of a call that reads the version of the symbol at an index, which is defined or not;
-- the name read before is kept
pub record FetchesSuffix {S W : Type 0} {s : Sources S} {w : Sinks W} (old new : Listing S W s w) (version : List ℕ) (result : Result (Option VersionSuffixEnd) Fault) (suffixes : VersionLookup) (index : ℕ) (is_defined : Bool) : Type 0 where
  pub fetches : ListingReads old new result (VERSYM_SIZE + name_bytes old.style.cap.bytes)
  pub kept : new.name ≡ old.name
  pub read : (file : List ℕ) → old.src.now.seen.file ≡ Some file → (table symbol_at : ℕ) → AreSuffixes file table suffixes
      → is_defined ≡ not (st_shndx file symbol_at == SHN_UNDEF) → SuffixRead result version (symbol_suffix file old.style.cap.bytes table symbol_at index)

-- what follows a name, as read
abbrev pub suffix_read : Option VersionSuffixEnd → List ℕ → Suffix
suffix_read None version = NoSuffix
suffix_read (Some suffix) version = Suffixed suffix.is_default (shown_by suffix.end version)

-- the effect of a call that writes a line that ends in the name that was read, with what follows it
abbrev pub ListsSuffixed : {S W X : Type 0} {s : Sources S} {w : Sinks W} → Listing S W s w → Listing S W s w → Result X RunFault → LinePrefix → NameEnd → Suffix → Type 0
ListsSuffixed old new result front end suffix =
    ListingCalls old new result 0
    ((at : ℕ) (answer : Result DisplayedName Cause) → NameRead at (Ok end) old.name answer
    → WroteSome old.out.now new.out.now result (suffixed_row EveryRow front at answer (Ok suffix)))

-- what the version after a name reads, and what it is, if there is a lookup
abbrev pub suffix_cost : Option VersionLookup → ℕ → ℕ
suffix_cost None cap = 0
suffix_cost (Some suffixes) cap = VERSYM_SIZE + name_bytes cap

abbrev pub suffix_by : Option VersionLookup → List ℕ → (cap table symbol_at index : ℕ) → Result Suffix Refusal
suffix_by None file cap table symbol_at index = Ok NoSuffix
suffix_by (Some suffixes) file cap table symbol_at index = symbol_suffix file cap table symbol_at index

-- a row without versions or with them
abbrev pub row_by : Option VersionLookup → (plain versioned : ℕ → List ListingItem) → ℕ → List ListingItem
row_by None plain versioned = plain
row_by (Some suffixes) plain versioned = versioned

-- the effect of a call that reads the version of the symbol at an index, if there is a lookup
pub record FetchesVersionBy {S W : Type 0} {s : Sources S} {w : Sinks W} (old new : Listing S W s w) (version : List ℕ) (result : Result (Option VersionSuffixEnd) Fault) (versions : Option VersionLookup) (index : ℕ) (is_defined : Bool) : Type 0 where
  pub fetches : ListingReads old new result (suffix_cost versions old.style.cap.bytes)
  pub kept : new.name ≡ old.name
  pub read : (file : List ℕ) → old.src.now.seen.file ≡ Some file → (table symbol_at : ℕ) → IfSome versions (AreSuffixes file table)
      → is_defined ≡ not (st_shndx file symbol_at == SHN_UNDEF) → SuffixRead result version (suffix_by versions file old.style.cap.bytes table symbol_at index)

-- the effect of a call that reads the version of the symbol that a relocation entry names; symbol 0
-- has none
pub record FetchesOfEntry {S W : Type 0} {s : Sources S} {w : Sinks W} (old new : Listing S W s w) (version : List ℕ) (result : Result (Option VersionSuffixEnd) Fault) (versions : Option VersionLookup) (symbol : ℕ) (is_defined : Bool) : Type 0 where
  pub fetches : ListingReads old new result (suffix_cost versions old.style.cap.bytes)
  pub kept : new.name ≡ old.name
  pub read : (file : List ℕ) → old.src.now.seen.file ≡ Some file → (table symbol_at : ℕ) → IfSome versions (AreSuffixes file table)
      → ((symbol == 0) ≡ false → is_defined ≡ not (st_shndx file symbol_at == SHN_UNDEF))
      → SuffixRead result version (if symbol == 0 then Ok NoSuffix else suffix_by versions file old.style.cap.bytes table symbol_at symbol)

-- the effect of a call that looks for the version lookup of the symbols that relocation entries
-- refer to, if they refer to any
abbrev pub linked_count : Option (TableRange × StringTableRange) → ℕ
linked_count None = 0
linked_count (Some found) = found.0.count

abbrev pub LinkedOr : List ℕ → ℕ → Option (TableRange × StringTableRange) → Result (Option VersionLookup) Fault → Type 0
LinkedOr file table None result = result ≡ Ok None
LinkedOr file table (Some found) result = found.0.count ≡ entry_count file (section_at file table) SYMBOL_SIZE → SuffixesOr file table result

pub record FetchesOfLinked {S W : Type 0} {s : Sources S} {w : Sinks W} (old new : Listing S W s w) (result : Result (Option VersionLookup) Fault) (table : ℕ) (linked : Option (TableRange × StringTableRange)) : Type 0 where
  pub fetches : ListingReads old new result (walks_asked (store_sections old.file.store.now) table (linked_count linked) old.file.loaded.size)
  pub within : IfOk result (λ found. IfSome found (SuffixesWithin old.src.now.seen.size))
  pub pays : IfOk result (λ found. IfSome found (λ suffixes. (cap : ℕ) → suffix_bytes (store_sections old.file.store.now) table cap ≡ VERSYM_SIZE + name_bytes cap))
  pub read : (file : List ℕ) → old.src.now.seen.file ≡ Some file → LinkedOr file table linked result
