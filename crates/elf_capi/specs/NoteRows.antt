-- Notes of a file in memory, as a caller iterates over them.
use Rattle.std.specs.Prelude.{ℕ, ◌≡◌, ◌≢◌, ◌+◌, ◌<◌, ◌≤◌, ◌⊎◌, true, false, List, length, Option, None, Some, Result, Ok, Err}
use Rattle.elf_model.specs.Prelude.{Note as Told, NoteScan, PT_NOTE, SHT_NOTE, e_phnum, e_shnum, is_outside, note_align, p_align, p_filesz, p_offset, p_type, section_at, segment_at, sh_addralign, sh_offset, sh_size, sh_type, slice, with_note}
use Rattle.elf_model.specs.declared.causes.Cause.TheVariants.{NoteCut, TableOutside}
use Rattle.elf_model.specs.declared.causes.Refusal.{Refusal}
use Rattle.elf_note.specs.NoteCursors.{notes_from, no_notes, cut_at}
use Rattle.elf_capi.specs.Checked.{first_refused}
use Rattle.elf_capi.specs.declared.notes.Note.{Note}
use Rattle.elf_capi.specs.declared.notes.NotePosition.{NotePosition}

-- the notes from a position on, up to the offset of a malformed one, if there is one
abbrev pub notes_at_place : List ℕ → NotePosition → NoteScan
notes_at_place file notes = notes_from (note_align notes.align) notes.at (slice file notes.at notes.left)

-- a row describes the note at a position: its bytes are at the row's offsets
pub record IsNoteAt (file : List ℕ) (notes : NotePosition) (told : Told) (note : Note) : Type 0 where
  pub its_place : note.at ≡ notes.at
  pub its_header : note.header ≡ notes.header
  pub kind : note.kind ≡ told.kind
  pub namesz : note.namesz ≡ length told.name
  pub descsz : note.descsz ≡ length told.descriptor
  pub name : slice file note.name_at note.namesz ≡ told.name
  pub descriptor : slice file note.desc_at note.descsz ≡ told.descriptor

-- a later position in the same table: at least a note header is passed
pub record IsFurther (old new : NotePosition) : Type 0 where
  pub fewer : new.left + 12 ≤ old.left
  pub same_end : new.at + new.left ≡ old.at + old.left
  pub same_align : new.align ≡ old.align
  pub same_header : new.header ≡ old.header

-- A STEP: the notes that were left are the row's note and those that are left now; or there was
-- none; or they are malformed here
abbrev pub TakesNote : List ℕ → NotePosition → NotePosition → Result (Option Note) Refusal → Type 0
TakesNote file old new (Ok (Some note)) =
    IsFurther old new × ((told : Told) × (notes_at_place file old ≡ with_note told (notes_at_place file new)) × IsNoteAt file old told note)
TakesNote file old new (Ok None) = (new ≡ old) × (notes_at_place file old ≡ no_notes)
TakesNote file old new (Err refusal) = (new ≡ old) × (notes_at_place file old ≡ cut_at old.at) × (refusal ≡ record { at = old.at; cause = NoteCut })

-- a table of notes lies within a file of `size` bytes, if it is not empty; otherwise it is refused
-- at the header's offset
abbrev pub InFile : ℕ → ℕ → NotePosition → Result (Option NotePosition) Refusal → Type 0
InFile size place notes (Ok (Some found)) = (found ≡ notes) × (notes.left ≢ 0 → is_outside size notes.at notes.left ≡ false)
InFile size place notes (Ok None) = ⊥
InFile size place notes (Err refusal) =
    (refusal ≡ record { at = place; cause = TableOutside }) × (notes.left ≢ 0) × (is_outside size notes.at notes.left ≡ true)

-- the table of notes that a section header describes, and that of a program header
abbrev pub notes_of_section : List ℕ → ℕ → NotePosition
notes_of_section file index =
    let at = section_at file index in record { at = sh_offset file at; left = sh_size file at; align = sh_addralign file at; header = index; none = 0 }

abbrev pub notes_of_segment : List ℕ → ℕ → NotePosition
notes_of_segment file index =
    let at = segment_at file index in record { at = p_offset file at; left = p_filesz file at; align = p_align file at; header = index; none = 0 }

-- THE RESULT for the notes of a section: the position of the first, in a table within the file;
-- none if the file has no such section or it holds no notes; or the first failing check
abbrev pub ReadsSectionNotes : List ℕ → ℕ → Result (Option NotePosition) Refusal → Type 0
ReadsSectionNotes file index (Ok (Some notes)) =
    (first_refused file ≡ None) × (index < e_shnum file) × (sh_type file (section_at file index) ≡ SHT_NOTE)
    × InFile (length file) (section_at file index) (notes_of_section file index) (Ok (Some notes))
ReadsSectionNotes file index (Ok None) = (first_refused file ≡ None) × ((e_shnum file ≤ index) ⊎ (sh_type file (section_at file index) ≢ SHT_NOTE))
ReadsSectionNotes file index (Err refusal) =
    (first_refused file ≡ Some refusal)
    ⊎ ((first_refused file ≡ None) × (index < e_shnum file) × (sh_type file (section_at file index) ≡ SHT_NOTE)
    × InFile (length file) (section_at file index) (notes_of_section file index) (Err refusal))

-- the same for a segment
abbrev pub ReadsSegmentNotes : List ℕ → ℕ → Result (Option NotePosition) Refusal → Type 0
ReadsSegmentNotes file index (Ok (Some notes)) =
    (first_refused file ≡ None) × (index < e_phnum file) × (p_type file (segment_at file index) ≡ PT_NOTE)
    × InFile (length file) (segment_at file index) (notes_of_segment file index) (Ok (Some notes))
ReadsSegmentNotes file index (Ok None) = (first_refused file ≡ None) × ((e_phnum file ≤ index) ⊎ (p_type file (segment_at file index) ≢ PT_NOTE))
ReadsSegmentNotes file index (Err refusal) =
    (first_refused file ≡ Some refusal)
    ⊎ ((first_refused file ≡ None) × (index < e_phnum file) × (p_type file (segment_at file index) ≡ PT_NOTE)
    × InFile (length file) (segment_at file index) (notes_of_segment file index) (Err refusal))
