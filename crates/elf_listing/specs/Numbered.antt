-- Where the names of version indices are.
use Rattle.std.specs.Prelude.{ℕ, ◌≡◌, nat_lt, if◌then◌else◌, List, Some, Result, Err}
use Rattle.elf_model.specs.Prelude.{DisplayedName, ListingItem, ListingStyle, VERSYM_SIZE, chosen_row, name_bytes, no_name, number_in, place_of_record, placed_choice, shown, symbol_version_prefix, versym}
use Rattle.elf_model.specs.declared.causes.Cause.{Cause}
use Rattle.elf_model.specs.declared.causes.Cause.TheVariants.{VersionIndex}
use Rattle.elf_table.specs.Prelude.{NameRead, StringsInBounds, strings_in}
use Rattle.elf_table.specs.declared.fault.Fault.{Fault}
use Rattle.elf_table.specs.declared.names.NameEnd.{NameEnd}
use Rattle.elf_source.specs.declared.source.Source.{Ghosts as Sources}
use Rattle.elf_source.specs.declared.sink.Sink.{Ghosts as Sinks}
use Rattle.elf_note.specs.Prelude.{name_at}
use Rattle.elf_note.specs.declared.version_names.VersionNameRef.TheVariants.{Defined, Needed, Nowhere}
use Rattle.elf_listing.specs.Shows.{ListingReads}
use Rattle.elf_listing.specs.declared.listing.Listing.{Listing}
use Rattle.elf_listing.specs.declared.numbered.VersionStrings.{VersionStrings}

-- the string tables of the names lie within a source of this size
abbrev pub NumberedWithin : ℕ → VersionStrings → Type 0
NumberedWithin size numbered = StringsInBounds size numbered.defined × StringsInBounds size numbered.needed

-- the name of a version index, at its given location: 0 and 1 have none, and one that no record
-- names is refused
unfoldable pub version_told : VersionStrings → List ℕ → (cap number : ℕ) → Result DisplayedName Cause
version_told numbered file cap number =
    if nat_lt number 2 then no_name
    else elim (name_at numbered.names number) [
      | Nowhere ↦ Err VersionIndex
      | Defined index ↦ shown (strings_in file numbered.defined) index cap
      | Needed index ↦ shown (strings_in file numbered.needed) index cap
    ]

-- the row of the version of a symbol, whose entry is at an offset, with that name: its fault is at
-- the entry
unfoldable pub reported_row : List ℕ → ListingStyle → VersionStrings → (section entry_at index : ℕ) → List ListingItem
reported_row file style numbered section entry_at index =
    let word = versym file entry_at in
    chosen_row (placed_choice style (place_of_record entry_at VERSYM_SIZE) style.choice)
    (symbol_version_prefix style.format section index word) entry_at (version_told numbered file style.cap (number_in word))

-- the effect of a call that reads the name of a version index, for the entry at an offset
pub record FetchesVersion {S W : Type 0} {s : Sources S} {w : Sinks W} (old new : Listing S W s w) (result : Result NameEnd Fault) (numbered : VersionStrings) (number at : ℕ) : Type 0 where
  pub fetches : ListingReads old new result (name_bytes old.style.cap.bytes)
  pub read : (file : List ℕ) → old.src.now.seen.file ≡ Some file → NameRead at result new.name (version_told numbered file old.style.cap.bytes number)
