-- The listing of the records of symbol versions.
use Rattle.std.specs.Prelude.{ℕ, ◌≡◌, ◌+◌, ◌*◌, List, ◌++◌, Some, Result}
use Rattle.elf_model.specs.Prelude.{ListingItem, ListingStyle, SHT_GNU_VERDEF, SHT_GNU_VERNEED, TableKind, Versions, VisitedRecord, end_rows, name_bytes, record_size, version_records, version_row, visited_rows}
use Rattle.elf_model.specs.declared.versions.VersionKind.TheVariants.{Definition, File, Need}
use Rattle.elf_model.specs.declared.versions.VersionKind.{VersionKind}
use Rattle.elf_options.specs.Permitted.{style_of}
use Rattle.elf_source.specs.declared.source.Source.{Ghosts as Sources}
use Rattle.elf_source.specs.declared.sink.Sink.{Ghosts as Sinks}
use Rattle.elf_table.specs.Prelude.{StringTableRange, strings_in}
use Rattle.elf_table.specs.declared.run_fault.RunFault.{RunFault}
use Rattle.elf_note.specs.Prelude.{IsCursorOf, IsVersion, VersionCursorState, bytes_each, unread, versions_left}
use Rattle.elf_note.specs.declared.record.VersionRecord.{VersionRecord}
use Rattle.elf_listing.specs.Parts.{of_sections}
use Rattle.elf_listing.specs.Shows.{ListingCalls, ListingWrote, WroteSome}
use Rattle.elf_listing.specs.declared.listing.Listing.{Listing}

-- the effect of a call that shows a record, with its name in a string table: if the record is the
-- file's, its row
abbrev pub ListsRecord : {S W X : Type 0} {s : Sources S} {w : Sinks W} → Listing S W s w → Listing S W s w → Result X RunFault → VersionRecord → ℕ → StringTableRange → Type 0
ListsRecord old new result given section names =
    ListingCalls old new result (name_bytes old.style.cap.bytes)
    ((file : List ℕ) (met : VisitedRecord) → old.src.now.seen.file ≡ Some file → IsVersion file met given
    → WroteSome old.out.now new.out.now result (version_row file (style_of old.style) section (strings_in file names) met))

-- the rows of records, up to the refusal of an invalid one
abbrev pub versions_items : List ℕ → ListingStyle → ℕ → List ℕ → Versions → List ListingItem
versions_items file style section strings versions = visited_rows file style section strings versions.met ++ end_rows versions.cut

-- how many bytes the remaining records of a cursor read at most, each with its name
abbrev pub records_cost : VersionCursorState → ℕ → ℕ
records_cost cursor cap = unread cursor + cursor.left * name_bytes cap

-- the effect of a call that shows the remaining records of a cursor: if the cursor is of the file,
-- their rows
abbrev pub ListsRecords : {S W X : Type 0} {s : Sources S} {w : Sinks W} → Listing S W s w → Listing S W s w → Result X RunFault → VersionCursorState → ℕ → StringTableRange → Type 0
ListsRecords old new result cursor section names =
    ListingCalls old new result (records_cost cursor old.style.cap.bytes)
    ((file : List ℕ) → old.src.now.seen.file ≡ Some file → IsCursorOf file cursor
    → WroteSome old.out.now new.out.now result (versions_items file (style_of old.style) section (strings_in file names) (versions_left file cursor)))

-- the sections that hold records of a kind: their type, and their tables
abbrev pub kind_type : VersionKind → ℕ
kind_type kind = elim kind [ Definition ↦ SHT_GNU_VERDEF | File ↦ SHT_GNU_VERNEED | Need ↦ SHT_GNU_VERNEED ]

abbrev pub records_kind : VersionKind → TableKind
records_kind kind = version_records kind (kind_type kind) (record_size kind) (bytes_each kind)

-- the effect of a call that shows the records of a section, if it holds records of a kind
abbrev pub ListsVersions : {S W X : Type 0} {s : Sources S} {w : Sinks W} → Listing S W s w → Listing S W s w → Result X RunFault → ℕ → VersionKind → Type 0
ListsVersions old new result section kind =
    let listed = of_sections (records_kind kind) in
    ListingCalls old new result (listed.cost old.file.loaded old.file.store.now old.style.cap.bytes section)
    (ListingWrote old new result (λ file. listed.items file (style_of old.style) section))
