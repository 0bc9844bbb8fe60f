-- The effect of calls that read the name of a version by its index.
use Rattle.std.specs.Prelude.{ℕ, ◌≡◌, nat_lt, Bool, false, List, None, Some, Result, Ok, Err}
use Rattle.elf_model.specs.Prelude.{Suffix, VERSYM_SIZE, name_bytes, name_index, named_at, shown, suffix_of, version_named, version_strings, versym}
use Rattle.elf_model.specs.declared.causes.Refusal.{Refusal}
use Rattle.elf_model.specs.declared.causes.Cause.TheVariants.{VersionIndex}
use Rattle.elf_table.specs.Prelude.{IsOfRead, NameRead, StringTableRange, strings_in}
use Rattle.elf_table.specs.declared.fault.Fault.{Fault}
use Rattle.elf_table.specs.declared.names.NameEnd.{NameEnd}
use Rattle.elf_source.specs.declared.source.Source.{Ghosts as Sources}
use Rattle.elf_source.specs.declared.sink.Sink.{Ghosts as Sinks}
use Rattle.elf_listing.specs.Shows.{ListingReads}
use Rattle.elf_listing.specs.Suffixed.{SuffixNamed}
use Rattle.elf_listing.specs.SymbolVersions.{AreNumbered}
use Rattle.elf_listing.specs.declared.listing.Listing.{Listing}
use Rattle.elf_listing.specs.declared.suffixes.VersionLookup.{VersionLookup}

-- an entry of the file was read, or a read failed
abbrev pub WordRead : List ℕ → ℕ → Result ℕ Fault → Type 0
WordRead file at (Ok word) = word ≡ versym file at
WordRead file at (Err fault) = IsOfRead fault

pub record FetchesWord {S W : Type 0} {s : Sources S} {w : Sinks W} (old new : Listing S W s w) (result : Result ℕ Fault) (at : ℕ) : Type 0 where
  pub fetches : ListingReads old new result VERSYM_SIZE
  pub kept : new.name ≡ old.name
  pub read : (file : List ℕ) → old.src.now.seen.file ≡ Some file → WordRead file at result

-- a name in a string table was read into a buffer
pub record FetchesInto {S W : Type 0} {s : Sources S} {w : Sinks W} (old new : Listing S W s w) (name : List ℕ) (result : Result NameEnd Fault) (names : StringTableRange) (off at : ℕ) : Type 0 where
  pub fetches : ListingReads old new result (name_bytes old.style.cap.bytes)
  pub kept : new.name ≡ old.name
  pub read : (file : List ℕ) → old.src.now.seen.file ≡ Some file → NameRead at result name (shown (strings_in file names) off old.style.cap.bytes)

-- what the version index of an entry at an offset names, by whether its version is the default one
abbrev pub number_reported : List ℕ → (cap number word_at : ℕ) → Bool → Result Suffix Refusal
number_reported file cap number word_at default = elim (version_named file number) [
  | None ↦ Err (record { at = word_at; cause = VersionIndex })
  | Some met ↦ suffix_of default (named_at file met) (shown (version_strings file met.kind) (name_index file met) cap)
]

-- the name of a version index of 2 or more was read
pub record FetchesNamed {S W : Type 0} {s : Sources S} {w : Sinks W} (old new : Listing S W s w) (version : List ℕ) (result : Result NameEnd Fault) (suffixes : VersionLookup) (number word_at : ℕ) : Type 0 where
  pub fetches : ListingReads old new result (name_bytes old.style.cap.bytes)
  pub kept : new.name ≡ old.name
  pub read : (file : List ℕ) → old.src.now.seen.file ≡ Some file → AreNumbered file suffixes.numbered suffixes.places → nat_lt number 2 ≡ false
      → SuffixNamed result version (number_reported file old.style.cap.bytes number word_at)
