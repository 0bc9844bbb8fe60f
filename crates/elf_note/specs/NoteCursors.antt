-- What a cursor over notes yields, note by note.
use Rattle.std.specs.Prelude.{ℕ, ◌≡◌, ◌+◌, ◌^◌, ◌<◌, ◌≤◌, min, suc, Bool, true, false, List, [], length, take, ◌⊎◌, Option, None, Some, Result, Ok, Err}
use Rattle.elf_model.specs.Prelude.{Cut as ShownCut, DisplayedName, Note, NoteScan, SHOWN_DESCRIPTOR, bytes_to_alignment, descriptor_start, note_align, note_shown, slice, walk_from, with_note}
use Rattle.elf_model.specs.declared.causes.Cause.TheVariants.{NoteCut}
use Rattle.elf_model.specs.Names.DisplayedName.{Whole as ShownWhole}
use Rattle.elf_source.specs.Prelude.{CountedState, ReadsOnward, SourceState}
use Rattle.elf_table.specs.Prelude.{HoldsBytes, IsOfRead, MovesOn, StillHolds, TableRange, WindowState, bytes_left, frontier, range_end}
use Rattle.elf_table.specs.declared.names.NameEnd.TheVariants.{Cut, Whole}
use Rattle.elf_table.specs.declared.fault.Fault.{Fault}
use Rattle.elf_table.specs.declared.names.NameEnd.{NameEnd}
use Rattle.elf_table.specs.declared.fault.Fault.TheVariants.{Refused}
use Rattle.elf_record.specs.declared.note_head.NoteHead.{NoteHead}
use Rattle.elf_note.specs.declared.note.FoundNote.{FoundNote}
use Rattle.elf_note.specs.declared.note_row.NoteRow.{NoteRow}
use Rattle.elf_note.specs.declared.sizes.NoteParts.{NoteParts}

-- a cursor: its table, the alignment of its notes, the bytes of the table that are left, the
-- current note with the first bytes of its descriptor, and the fault if it failed
pub record NoteCursorState : Type 0 where
  pub table : TableRange
  pub align : ℕ
  pub ahead : WindowState
  pub found : FoundNote
  pub descriptor : List ℕ
  pub failed : Option Fault

-- a cursor before the first note of a table, of the alignment that its header has
pub record StartsNotes (table : TableRange) (align : ℕ) (c : NoteCursorState) : Type 0 where
  pub its_table : c.table ≡ table
  pub its_align : c.align ≡ note_align align
  pub ahead : c.ahead ≡ record { at = table.at; held = []; unread = table.count; page = 4096 }
  pub not_failed : c.failed ≡ None

-- the bytes of a file that are left
abbrev pub rest : List ℕ → WindowState → List ℕ
rest file w = slice file w.at (bytes_left w)

-- the notes of some bytes at an offset, up to the offset of a malformed one, if there is one
abbrev pub notes_from : ℕ → ℕ → List ℕ → NoteScan
notes_from a at bytes = walk_from a (suc (length bytes)) at bytes

-- the notes that are left
abbrev pub notes_left : ℕ → List ℕ → WindowState → NoteScan
notes_left a file w = notes_from a w.at (rest file w)

-- no note is left
abbrev pub no_notes : NoteScan
no_notes = record { notes = []; cut = None }

-- no note is left, and the bytes left at an offset are malformed
abbrev pub cut_at : ℕ → NoteScan
cut_at at = record { notes = []; cut = Some at }

-- the fault that refuses a table of notes at an offset
abbrev pub note_cut : ℕ → Fault
note_cut at = Refused (record { at = at; cause = NoteCut })

-- the fault of a step: a fault of a read, or the refusal of what is left
abbrev pub StopsNote : ℕ → Fault → Type 0
StopsNote at fault = IsOfRead fault ⊎ (fault ≡ note_cut at)

-- bytes are a name as it is shown
abbrev pub NameIs : NameEnd → List ℕ → DisplayedName → Type 0
NameIs Whole bytes shown = shown ≡ ShownWhole bytes
NameIs Cut bytes shown = shown ≡ ShownCut bytes

-- how many of the bytes that are left a note takes, for the sizes of its name and its descriptor
abbrev pub note_size : ℕ → ℕ → ℕ → ℕ → ℕ
note_size a namesz descsz left =
    let size = descriptor_start a namesz descsz + descsz in
    min (size + bytes_to_alignment a size) left

-- where the parts of the note of a header are, of whose table n bytes are left
pub record AreNoteParts (a : ℕ) (head : NoteHead) (left : ℕ) (parts : NoteParts) : Type 0 where
  pub descriptor : parts.descriptor ≡ descriptor_start a head.namesz head.descsz
  pub fits : parts.descriptor + head.descsz ≤ left
  pub size : parts.size ≡ note_size a head.namesz head.descsz left
  pub within : parts.descriptor + head.descsz ≤ parts.size
  pub most : parts.size ≤ left

-- a note of a file at an offset as it is found, with its name as it is shown and the first bytes of
-- its descriptor, which are the file's at that place
pub record IsNoteFound (file : List ℕ) (a cap at : ℕ) (note : Note) (found : FoundNote) (name descriptor : List ℕ) : Type 0 where
  pub its_place : found.at ≡ at
  pub namesz : found.head.namesz ≡ length note.name
  pub descsz : found.head.descsz ≡ length note.descriptor
  pub kind : found.head.kind ≡ note.kind
  pub shown_name : NameIs found.name_end name (note_shown cap note)
  pub descriptor_at : found.desc_at ≡ at + descriptor_start a (length note.name) (length note.descriptor)
  pub first_bytes : descriptor ≡ take SHOWN_DESCRIPTOR note.descriptor
  pub whole : note.descriptor ≡ slice file found.desc_at (length note.descriptor)

-- the notes that were left are a note, as it is found, and those that are left now
abbrev pub GivesNote : List ℕ → ℕ → ℕ → ℕ → List ℕ → List ℕ → NoteScan → NoteScan → FoundNote → Type 0
GivesNote file a cap at name descriptor old new found =
    (note : Note) × (old ≡ with_note note new) × IsNoteFound file a cap at note found name descriptor

-- the relation of the notes that were left before a step over the next note and those left after it
abbrev pub ReturnsNote : List ℕ → ℕ → ℕ → ℕ → List ℕ → List ℕ → NoteScan → NoteScan → Result (Option FoundNote) Fault → Type 0
ReturnsNote file a cap at name bytes old new (Ok (Some found)) = GivesNote file a cap at name (take found.shown bytes) old new found
ReturnsNote file a cap at name bytes old new (Ok None) = old ≡ no_notes
ReturnsNote file a cap at name bytes old new (Err fault) = fault ≡ note_cut at → old ≡ cut_at at

-- a note takes at least its header, and at the end nothing is left
abbrev pub PassesNote : ℕ → ℕ → Option FoundNote → Type 0
PassesNote before after (Some found) = (after + 12 ≤ before) × (found.at + 12 < 2 ^ 64) × (found.shown ≤ 32)
PassesNote before after None = after ≡ 0

-- a note takes its own bytes of those that are left, with its padding, and its descriptor ends
-- among them
pub record TakesItsBytes (a : ℕ) (old new : WindowState) (found : FoundNote) : Type 0 where
  pub size : bytes_left new + note_size a found.head.namesz found.head.descsz (bytes_left old) ≡ bytes_left old
  pub ends : found.desc_at + found.head.descsz ≤ range_end old

abbrev pub TakesNoteBytes : ℕ → WindowState → WindowState → Option FoundNote → Type 0
TakesNoteBytes a old new (Some found) = TakesItsBytes a old new found
TakesNoteBytes a old new None = Unit {0}

-- the same for a step of a cursor
abbrev PassesOverNote : NoteCursorState → NoteCursorState → Result Bool Fault → Type 0
PassesOverNote old new (Ok true) = TakesItsBytes old.align old.ahead new.ahead new.found
PassesOverNote old new (Ok false) = Unit {0}
PassesOverNote old new (Err fault) = Unit {0}

-- the position of a cursor after a step: after a note, at the end, or failed
abbrev LeavesNote : NoteCursorState → NoteCursorState → Result Bool Fault → Type 0
LeavesNote old new (Ok true) = (old.failed ≡ None) × (new.failed ≡ None) × (bytes_left new.ahead + 12 ≤ bytes_left old.ahead)
LeavesNote old new (Ok false) = (old.failed ≡ None) × (new.failed ≡ None) × (bytes_left new.ahead ≡ 0)
LeavesNote old new (Err fault) = (new.failed ≡ Some fault) × (old.failed ≡ None → StopsNote old.ahead.at fault)

-- the relation of a step of a cursor to a file's notes: those that were left are the current one
-- and those that are left now; or there was none; or they are malformed here
abbrev StepTells : List ℕ → ℕ → NoteCursorState → NoteCursorState → List ℕ → Result Bool Fault → Type 0
StepTells file cap old new name (Ok true) =
    GivesNote file old.align cap old.ahead.at name new.descriptor (notes_left old.align file old.ahead) (notes_left old.align file new.ahead) new.found
StepTells file cap old new name (Ok false) = notes_left old.align file old.ahead ≡ no_notes
StepTells file cap old new name (Err fault) = old.failed ≡ None → fault ≡ note_cut old.ahead.at → notes_left old.align file old.ahead ≡ cut_at old.ahead.at

-- what every step keeps, fault or not: the table and the alignment, and no byte is requested twice;
-- a cursor that had failed is unchanged
pub record KeepsNotes (one_read : SourceState → ℕ → ℕ → SourceState → Type 0) (before after : CountedState) (old new : NoteCursorState) : Type 0 where
  pub same_table : new.table ≡ old.table
  pub same_align : new.align ≡ old.align
  pub moves : MovesOn old.ahead new.ahead before.asked after.asked
  pub onward : ReadsOnward one_read before.source after.source (frontier old.ahead) (frontier new.ahead)
  pub unchanged : (fault : Fault) → old.failed ≡ Some fault → new ≡ old

-- a step of a cursor that returns whether it yielded a note
pub record AdvancesNote (file : Option (List ℕ)) (cap : ℕ) (old new : NoteCursorState) (name : List ℕ) (result : Result Bool Fault) : Type 0 where
  pub leaves : LeavesNote old new result
  pub passes : PassesOverNote old new result
  pub agrees : StillHolds file old.ahead new.ahead
  pub tells : (bytes : List ℕ) → file ≡ Some bytes → HoldsBytes bytes old.ahead → StepTells bytes cap old new name result

-- the note that a cursor holds, as it shows it
pub record ShowsNote (c : NoteCursorState) (row : NoteRow) : Type 0 where
  pub its_place : row.at ≡ c.found.at
  pub its_head : row.head ≡ c.found.head
  pub its_name : row.name_at ≡ c.found.at + 12
  pub its_end : row.name_end ≡ c.found.name_end
  pub its_descriptor : row.desc_at ≡ c.found.desc_at
  pub its_bytes : row.desc.now ≡ c.descriptor

-- the same, for a step that returns the note
abbrev pub StepsNote : Option (List ℕ) → ℕ → NoteCursorState → NoteCursorState → List ℕ → Result (Option NoteRow) Fault → Type 0
StepsNote file cap old new name (Ok (Some row)) = AdvancesNote file cap old new name (Ok true) × ShowsNote new row
StepsNote file cap old new name (Ok None) = AdvancesNote file cap old new name (Ok false)
StepsNote file cap old new name (Err fault) = AdvancesNote file cap old new name (Err fault)
