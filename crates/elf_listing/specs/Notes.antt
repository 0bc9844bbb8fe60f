-- The listing of the notes of a table.
use Rattle.std.specs.Prelude.{ℕ, ◌≡◌, if◌then◌else◌, Bool, List, [], ◌++◌, length, take, None, Some, Result}
use Rattle.elf_model.specs.Prelude.{ListingItem, ListingStyle, NoteRow as FileNote, NoteScan, SHOWN_DESCRIPTOR, note_align, note_row, note_rows, note_shown, notes_rows, refused_row, slice, walk_rows, walked}
use Rattle.elf_model.specs.declared.causes.Cause.TheVariants.{NoteCut}
use Rattle.elf_options.specs.Permitted.{style_of}
use Rattle.elf_note.specs.Prelude.{NameIs}
use Rattle.elf_note.specs.declared.note_row.NoteRow.{NoteRow}
use Rattle.elf_source.specs.Prelude.{OutState}
use Rattle.elf_source.specs.declared.source.Source.{Ghosts as Sources}
use Rattle.elf_source.specs.declared.sink.Sink.{Ghosts as Sinks}
use Rattle.elf_table.specs.Prelude.{TableRange}
use Rattle.elf_table.specs.declared.run_fault.RunFault.{RunFault}
use Rattle.elf_listing.specs.Shows.{ListingCalls, ListingWrote, WroteItems, WroteSome}
use Rattle.elf_listing.specs.declared.listing.Listing.{Listing}

-- a row shows a note: its offset, its header, its name as shown, the first bytes of its descriptor
pub record IsNoteRow (cap : ℕ) (given : FileNote) (row : NoteRow) (name : List ℕ) : Type 0 where
  pub here : row.at ≡ given.at
  pub named : NameIs row.name_end name (note_shown cap given.note)
  pub kind : row.head.kind ≡ given.note.kind
  pub namesz : row.head.namesz ≡ length given.note.name
  pub descsz : row.head.descsz ≡ length given.note.descriptor
  pub first_bytes : row.desc.now ≡ take SHOWN_DESCRIPTOR given.note.descriptor

-- the alignment of notes, by whether it is the larger one
abbrev pub align_of : Bool → ℕ
align_of is_wide = if is_wide then 8 else 4

-- the effect of a call that shows a note of an alignment, whose header has an index: its row
abbrev pub ListsNote : {S W X : Type 0} {s : Sources S} {w : Sinks W} → Listing S W s w → Listing S W s w → Result X RunFault → NoteRow → Bool → ℕ → Type 0
ListsNote old new result row is_wide index =
    ListingCalls old new result 0
    ((given : FileNote) → IsNoteRow old.style.cap.bytes given row old.name
    → WroteSome old.out.now new.out.now result (note_row (style_of old.style) index (align_of is_wide) given))

-- the effect of a call that shows the notes of a table: the rows of all notes, up to the offset
-- where no note is
abbrev pub ListsNotes : {S W X : Type 0} {s : Sources S} {w : Sinks W} → Listing S W s w → Listing S W s w → Result X RunFault → TableRange → ℕ → ℕ → Type 0
ListsNotes old new result table align index =
    ListingCalls old new result table.count
    (ListingWrote old new result (λ file. walk_rows (style_of old.style) index (note_align align) table.at (walked (note_align align) (slice file table.at table.count))))

-- the rows of notes of an alignment, the first of them at an offset, whose cut is at an offset of the
-- file
abbrev pub note_items : ListingStyle → (index a at : ℕ) → NoteScan → List ListingItem
note_items style index a at walk =
    notes_rows style index a (note_rows a at walk.notes)
    ++ (elim walk.cut [ None ↦ [] | Some place ↦ refused_row place NoteCut ])

-- the items written, without a fault, and those that are left are all items
pub record WrittenBefore (old new : OutState) (all left : List ListingItem) : Type 0 where
  pub done : List ListingItem
  pub split : all ≡ done ++ left
  pub whole : WroteItems old new done
