-- The listing of the versions of symbols, and the names of their version indices.
use Rattle.std.specs.Prelude.{ℕ, ◌≡◌, ◌+◌, ◌*◌, min, nat_lt, if◌then◌else◌, List, [], ◌++◌, Option, None, Some, Result, Ok, Err, IfOk}
use Rattle.elf_model.specs.Prelude.{IsBudgetRefusal, ListingItem, ListingStyle, SHT_GNU_VERDEF, SHT_GNU_VERNEED, VERSYM_SIZE, VisitedRecord, each, first_strings, first_versions, name_bytes, or_refusal, record_size, refused_row, walk_cost, walk_refusal, walks_cost}
use Rattle.elf_model.specs.declared.versions.VersionKind.TheVariants.{Definition, File}
use Rattle.elf_model.specs.declared.causes.Refusal.{Refusal}
use Rattle.elf_model.specs.declared.causes.Cause.TheVariants.{VersionCut}
use Rattle.elf_model.specs.declared.versions.VersionKind.{VersionKind}
use Rattle.elf_table.specs.Prelude.{StringTableRange, StringsInBounds, TableRange, section_place, strings_in}
use Rattle.elf_table.specs.declared.fault.Fault.{Fault}
use Rattle.elf_table.specs.declared.run_fault.RunFault.{RunFault}
use Rattle.elf_options.specs.Permitted.{style_of}
use Rattle.elf_table.specs.declared.fault.Fault.TheVariants.{Refused, Source}
use Rattle.elf_source.specs.declared.source.Source.{Ghosts as Sources}
use Rattle.elf_source.specs.declared.sink.Sink.{Ghosts as Sinks}
use Rattle.elf_note.specs.Prelude.{NamesNumbers, bytes_each}
use Rattle.elf_note.specs.declared.version_names.VersionNameRef.{VersionNameRef}
use Rattle.elf_listing.specs.Numbered.{NumberedWithin, reported_row}
use Rattle.elf_listing.specs.Parts.{store_sections}
use Rattle.elf_listing.specs.Shows.{ListingReads, ListingCalls, WroteSome}
use Rattle.elf_listing.specs.Versions.{kind_type}
use Rattle.elf_listing.specs.declared.listing.Listing.{Listing}
use Rattle.elf_listing.specs.declared.numbered.VersionStrings.{VersionStrings}

-- the rows of n entries of a table, for a number of symbols: if a symbol has no entry, the refusal
-- is at a place
unfoldable pub versioned_items : List ℕ → ListingStyle → VersionStrings → (section : ℕ) → TableRange → (symbols place : ℕ) → List ListingItem
versioned_items file style numbered section table symbols place =
    each (λ i. reported_row file style numbered section (table.at + i * VERSYM_SIZE) i) 0 (min table.count symbols)
    ++ (if nat_lt table.count symbols then refused_row place VersionCut else [])

-- the effect of a call that shows them
abbrev pub ListsVersioned : {S W X : Type 0} {s : Sources S} {w : Sinks W} → Listing S W s w → Listing S W s w → Result X RunFault → ℕ → TableRange → ℕ → VersionStrings → Type 0
ListsVersioned old new result section table symbols numbered =
    ListingCalls old new result (min table.count symbols * (VERSYM_SIZE + name_bytes old.style.cap.bytes))
    ((file : List ℕ) → old.src.now.seen.file ≡ Some file
    → WroteSome old.out.now new.out.now result (versioned_items file (style_of old.style) numbered section table symbols (section_place old.file.loaded.header section)))

-- the checks of the first section that holds records of a kind pass, and none of its records is
-- refused
abbrev pub AreRecordsWhole : List ℕ → VersionKind → Type 0
AreRecordsWhole file kind = walk_refusal kind (kind_type kind) file ≡ None

-- the names and the locations of some records
abbrev pub NumbersTaken : List VersionNameRef → List ℕ → List ℕ → List VisitedRecord → Type 0
NumbersTaken names places file records = NamesNumbers file records names places

-- the records of that section were added after others, and their names are in these strings
pub record TakenIn (file : List ℕ) (kind : VersionKind) (records : List VisitedRecord) (after : List ℕ → List VisitedRecord → Type 0) (strings : StringTableRange) : Type 0 where
  pub whole : AreRecordsWhole file kind
  pub names : after file (records ++ first_versions kind (kind_type kind) file)
  pub named : (first_versions kind (kind_type kind) file ≡ [] → ⊥) → strings_in file strings ≡ first_strings (kind_type kind) file

abbrev pub TakenOr : List ℕ → VersionKind → List VisitedRecord → (List ℕ → List VisitedRecord → Type 0) → Result StringTableRange Fault → Type 0
TakenOr file kind records after (Ok strings) = TakenIn file kind records after strings
TakenOr file kind records after (Err (Refused refusal)) = (IsBudgetRefusal refusal → ⊥) → walk_refusal kind (kind_type kind) file ≡ Some refusal
TakenOr file kind records after (Err (Source fault at)) = Unit {0}

-- the effect of a call that adds them: they are added, or what refuses them is returned, unless a
-- read fails
pub record TakesRecords {S W : Type 0} {s : Sources S} {w : Sinks W} (old new : Listing S W s w) (before after : List ℕ → List VisitedRecord → Type 0) (result : Result StringTableRange Fault) (kind : VersionKind) : Type 0 where
  pub fetches : ListingReads old new result (walk_cost (store_sections old.file.store.now) old.file.loaded.size (kind_type kind) (record_size kind) (bytes_each kind))
  pub within : IfOk result (StringsInBounds old.src.now.seen.size)
  pub taken : (file : List ℕ) → old.src.now.seen.file ≡ Some file → (records : List VisitedRecord) → before file records → TakenOr file kind records after result

-- the names of all version indices of a file
pub record AreNumbered (file : List ℕ) (numbered : VersionStrings) (places : List ℕ) : Type 0 where
  pub names : NamesNumbers file (first_versions Definition SHT_GNU_VERDEF file ++ first_versions File SHT_GNU_VERNEED file) numbered.names places
  pub defined : (first_versions Definition SHT_GNU_VERDEF file ≡ [] → ⊥) → strings_in file numbered.defined ≡ first_strings SHT_GNU_VERDEF file
  pub needed : (first_versions File SHT_GNU_VERNEED file ≡ [] → ⊥) → strings_in file numbered.needed ≡ first_strings SHT_GNU_VERNEED file

-- what refuses them, if anything does: the definitions, otherwise the needs
abbrev pub walks_refusal : List ℕ → Option Refusal
walks_refusal file = or_refusal (walk_refusal Definition SHT_GNU_VERDEF file) (walk_refusal File SHT_GNU_VERNEED file)

abbrev pub NumberedOr : List ℕ → List ℕ → Result VersionStrings Fault → Type 0
NumberedOr file places (Ok numbered) = (walks_refusal file ≡ None) × AreNumbered file numbered places
NumberedOr file places (Err (Refused refusal)) = (IsBudgetRefusal refusal → ⊥) → walks_refusal file ≡ Some refusal
NumberedOr file places (Err (Source fault at)) = Unit {0}

-- no version index has a name yet
abbrev pub IsUnnamed : VersionStrings → Type 0
IsUnnamed numbered = (file : List ℕ) (places : List ℕ) → NamesNumbers file [] numbered.names places

-- what a call filled in place, if it succeeded
abbrev pub filled : {X Y : Type 0} → Result X Fault → Y → Result Y Fault
filled (Ok done) value = Ok value
filled (Err fault) value = Err fault

-- the effect of a call that finds them
pub record FetchesNumbers {S W : Type 0} {s : Sources S} {w : Sinks W} (old new : Listing S W s w) (places : List ℕ) (result : Result VersionStrings Fault) : Type 0 where
  pub fetches : ListingReads old new result (walks_cost (store_sections old.file.store.now) old.file.loaded.size)
  pub within : IfOk result (NumberedWithin old.src.now.seen.size)
  pub read : (file : List ℕ) → old.src.now.seen.file ≡ Some file → NumberedOr file places result
