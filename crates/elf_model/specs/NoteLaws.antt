-- What is true of every note table: the laws of notes. They hold for every alignment and all bytes.
use Rattle.std.specs.Prelude.{◌≡◌, ℕ, ◌+◌, ◌%◌, ◌<◌, ◌≤◌, List, ◌∷◌, ◌++◌, length, take, All, ◌⊎◌, ◌↔◌, None, Some}
use Rattle.elf_model.specs.Bytes.{slice}
use Rattle.elf_model.specs.Names.{nul_in}
use Rattle.elf_model.specs.Names.DisplayedName.{Whole, Cut}
use Rattle.elf_model.specs.Notes.{Note, IsNoteEncoding, Notes, CutAt, walked, NoteRow, note_rows, escaped_size, note_align, before_nul, note_shown}

-- the notes that are walked to a table's end fit the table
abbrev pub WalkedFits : Type 0
WalkedFits = (a : ℕ) (table : List ℕ) → (walked a table).cut ≡ None → Notes a (walked a table).notes table

-- a list of notes that fits a table is what is walked
abbrev pub FittingIsWalked : Type 0
FittingIsWalked = (a : ℕ) (notes : List Note) (table : List ℕ) → Notes a notes table → walked a table ≡ record { notes = notes; cut = None }

-- at most one list of notes fits a table
abbrev pub OneListAtMost : Type 0
OneListAtMost = (a : ℕ) (table : List ℕ) (notes others : List Note) → Notes a notes table → Notes a others table → notes ≡ others

-- if the walk is cut, the table is
abbrev pub WalkedIsCut : Type 0
WalkedIsCut = (a : ℕ) (table : List ℕ) (offset : ℕ) → (walked a table).cut ≡ Some offset → CutAt a (walked a table).notes offset table

-- if a table is cut, the walk is
abbrev pub CutIsWalked : Type 0
CutIsWalked =
    (a : ℕ) (notes : List Note) (offset : ℕ) (table : List ℕ) → CutAt a notes offset table
    → walked a table ≡ record { notes = notes; cut = Some offset }

-- a list of notes fits a table, or the table is cut at an offset
abbrev pub FitsOrIsCut : Type 0
FitsOrIsCut =
    (a : ℕ) (table : List ℕ)
    → ((notes : List Note) × Notes a notes table) ⊎ ((notes : List Note) × (offset : ℕ) × CutAt a notes offset table)

-- a row's note is in the table: its encoding at the row's offset, its name after the header, its
-- descriptor at the descriptor's offset
pub record IsNoteInTable (a : ℕ) (table : List ℕ) (row : NoteRow) : Type 0 where
  pub within : row.at + escaped_size a row.note ≤ length table
  pub spelt : IsNoteEncoding a row.note (slice table row.at (escaped_size a row.note))
  pub name : slice table (row.at + 12) (length row.note.name) ≡ row.note.name
  pub descriptor : slice table row.descriptor_at (length row.note.descriptor) ≡ row.note.descriptor

-- each note that is walked is in its table at its row's offset
abbrev pub RowsStand : Type 0
RowsStand = (a : ℕ) (table : List ℕ) → All (IsNoteInTable a table) (note_rows a 0 (walked a table).notes)

-- a row starts at a multiple of the alignment, and so does its descriptor if it is not empty
abbrev pub IsAligned : ℕ → NoteRow → Type 0
IsAligned a row = (row.at % a ≡ 0) × (0 < length row.note.descriptor → row.descriptor_at % a ≡ 0)

-- notes are aligned from their table's start on
abbrev pub RowsAligned : Type 0
RowsAligned = (align : ℕ) (notes : List Note) → All (IsAligned (note_align align)) (note_rows (note_align align) 0 notes)

-- what comes before the first NUL has none, and is followed by a NUL or nothing
abbrev pub BeforeNulExactly : Type 0
BeforeNulExactly =
    (bytes name : List ℕ)
    → (before_nul bytes ≡ name) ↔ ((nul_in name ≡ None) × ((bytes ≡ name) ⊎ ((rest : List ℕ) × (bytes ≡ name ++ 0 ∷ rest))))

-- a note's name is shown whole if it has no more than cap bytes before its first NUL
abbrev pub NoteShownWholeExactly : Type 0
NoteShownWholeExactly =
    (cap : ℕ) (note : Note) (name : List ℕ)
    → (note_shown cap note ≡ Whole name) ↔ ((before_nul note.name ≡ name) × (length name ≤ cap))

-- otherwise its first cap bytes are
abbrev pub NoteShownCutExactly : Type 0
NoteShownCutExactly =
    (cap : ℕ) (note : Note) (front : List ℕ)
    → (note_shown cap note ≡ Cut front) ↔ ((cap < length (before_nul note.name)) × (front ≡ take cap (before_nul note.name)))
