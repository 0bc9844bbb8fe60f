-- Notes (gABI 5, Note Section): what the notes of a table are, how they are shown, and how they are
-- computed. Each has a header of three words of four bytes, as the usual tools write it: in 64-bit
-- files the standard's words have eight.
use Rattle.std.specs.Prelude.{◌≡◌, ℕ, zero, suc, ◌+◌, ◌-◌, ◌%◌, ◌==◌, ◌<◌, ◌≤◌, min, nat_lt, Bool, true, if◌then◌else◌, List, [], ◌∷◌, ◌++◌, length, take, drop, ◌⊎◌, Option, None, Some}
use Rattle.std.specs.List.{list_all, before_first}
use Rattle.elf_model.specs.Bytes.{slice}
use Rattle.elf_model.specs.Records.{n_namesz, n_descsz, n_type}
use Rattle.elf_model.specs.Names.{DisplayedName}
use Rattle.elf_model.specs.Names.DisplayedName.{Whole, Cut}

-- a note: its type, the bytes of its name and of its descriptor
pub record Note : Type 0 where
  pub kind : ℕ
  pub name : List ℕ
  pub descriptor : List ℕ

-- notes are aligned to 8 bytes if the section or the segment is, otherwise to 4
abbrev pub note_align : ℕ → ℕ
note_align align = if align == 8 then 8 else 4

-- how many bytes there are from n to the next multiple of an alignment
abbrev pub bytes_to_alignment : ℕ → ℕ → ℕ
bytes_to_alignment a n = (a - n % a) % a

-- the bytes between a name and its descriptor, for the two sizes: none if the descriptor is empty
abbrev pub alignment_gap : ℕ → ℕ → ℕ → ℕ
alignment_gap a namesz descsz = if descsz == 0 then 0 else bytes_to_alignment a (12 + namesz)

-- a text encodes a note: the header with the two sizes and the type, the name, the gap, the
-- descriptor
pub record IsNoteEncoding (a : ℕ) (note : Note) (text : List ℕ) : Type 0 where
  pub head : List ℕ
  pub gap : List ℕ
  pub parts : text ≡ head ++ note.name ++ gap ++ note.descriptor
  pub head_size : length head ≡ 12
  pub namesz : n_namesz head 0 ≡ length note.name
  pub descsz : n_descsz head 0 ≡ length note.descriptor
  pub type : n_type head 0 ≡ note.kind
  pub gap_size : length gap ≡ alignment_gap a (length note.name) (length note.descriptor)

-- a text is a note's encoding and any bytes up to the next multiple of the alignment
pub record Padded (a : ℕ) (note : Note) (text : List ℕ) : Type 0 where
  pub spelling : List ℕ
  pub padding : List ℕ
  pub parts : text ≡ spelling ++ padding
  pub spelt : IsNoteEncoding a note spelling
  pub padding_size : length padding ≡ bytes_to_alignment a (length spelling)

-- a text is one padded text for each note, in order
abbrev pub AllPadded : ℕ → List Note → List ℕ → Type 0
AllPadded a [] text = text ≡ []
AllPadded a (note ∷ notes) text =
    (first : List ℕ) × (rest : List ℕ) × (text ≡ first ++ rest) × Padded a note first × AllPadded a notes rest

-- all bytes are zero
abbrev pub are_zeros : List ℕ → Bool
are_zeros bytes = list_all (λ b. b == 0) bytes

-- a table is padded notes and fewer than 12 zero bytes
pub record EndsInZeros (a : ℕ) (notes : List Note) (table : List ℕ) : Type 0 where
  pub front : List ℕ
  pub tail : List ℕ
  pub parts : table ≡ front ++ tail
  pub padded : AllPadded a notes front
  pub few : length tail < 12
  pub zeros : are_zeros tail ≡ true

-- a table is padded notes, and one more whose padding ends too early
pub record EndsInSpelling (a : ℕ) (notes : List Note) (table : List ℕ) : Type 0 where
  pub before : List Note
  pub last : Note
  pub front : List ℕ
  pub spelling : List ℕ
  pub padding : List ℕ
  pub list : notes ≡ before ++ last ∷ []
  pub parts : table ≡ front ++ spelling ++ padding
  pub padded : AllPadded a before front
  pub spelt : IsNoteEncoding a last spelling
  pub short : length padding < bytes_to_alignment a (length spelling)

-- a table has these notes
abbrev pub Notes : ℕ → List Note → List ℕ → Type 0
Notes a notes table = EndsInZeros a notes table ⊎ EndsInSpelling a notes table

-- a table has no list of notes, and the longest prefix of it that is padded notes alone, these,
-- ends at an offset
pub record CutAt (a : ℕ) (notes : List Note) (offset : ℕ) (table : List ℕ) : Type 0 where
  pub within : offset ≤ length table
  pub padded : AllPadded a notes (take offset table)
  pub longest : (others : List Note) (other : ℕ) → other ≤ length table → AllPadded a others (take other table) → other ≤ offset
  pub none_fits : (others : List Note) → Notes a others table → ⊥

-- the bytes from a note's start to its descriptor's start, for the two sizes
abbrev pub descriptor_start : ℕ → ℕ → ℕ → ℕ
descriptor_start a namesz descsz = 12 + namesz + alignment_gap a namesz descsz

-- a note's size without its padding
abbrev pub escaped_size : ℕ → Note → ℕ
escaped_size a note = descriptor_start a (length note.name) (length note.descriptor) + length note.descriptor

-- a note's size with its padding
abbrev pub padded_size : ℕ → Note → ℕ
padded_size a note = escaped_size a note + bytes_to_alignment a (escaped_size a note)

-- a note and its offset in its table; the descriptor's, or if it is empty the note's end
pub record NoteRow : Type 0 where
  pub at : ℕ
  pub note : Note
  pub descriptor_at : ℕ

-- the notes at an offset, each with its own
unfoldable pub note_rows : ℕ → ℕ → List Note → List NoteRow
note_rows a offset [] = []
note_rows a offset (note ∷ notes) =
    record { at = offset; note = note; descriptor_at = offset + descriptor_start a (length note.name) (length note.descriptor) }
    ∷ note_rows a (offset + padded_size a note) notes

-- a name up to its first NUL, or all of it
abbrev pub before_nul : List ℕ → List ℕ
before_nul name = before_first (λ b. b == 0) name

-- a name whole, or cut to cap bytes if it has more
abbrev pub capped : ℕ → List ℕ → DisplayedName
capped cap name = if nat_lt cap (length name) then Cut (take cap name) else Whole name

-- a note's name as it is shown with at most cap bytes: up to its first NUL, or all of it
unfoldable pub note_shown : ℕ → Note → DisplayedName
note_shown cap note = capped cap (before_nul note.name)

-- The computation. By the laws `WalkedFits` and `FittingIsWalked` the notes of `walked` are those
-- that `Notes` describes, and by `WalkedIsCut` and `CutIsWalked` its cut is that of `CutAt`.

-- what is at the start of the remaining bytes of a table: its end, nothing that is a note, or a
-- note and its size with its padding
pub data NextNote : Type 0 where
  Ends : NextNote
  Broken : NextNote
  OneNote : Note → ℕ → NextNote

-- the note whose header is at the start of some bytes
abbrev pub first_note : ℕ → List ℕ → Note
first_note a rest =
    record {
      kind = n_type rest 0;
      name = slice rest 12 (n_namesz rest 0);
      descriptor = slice rest (descriptor_start a (n_namesz rest 0) (n_descsz rest 0)) (n_descsz rest 0);
    }

-- the end of that note, without its padding
abbrev pub first_end : ℕ → List ℕ → ℕ
first_end a rest = descriptor_start a (n_namesz rest 0) (n_descsz rest 0) + n_descsz rest 0

-- fewer than 12 bytes are the table's end if all are zero; a note ends within the bytes, but its
-- padding may be missing
unfoldable pub next_note : ℕ → List ℕ → NextNote
next_note a rest =
    if nat_lt (length rest) 12 then (if are_zeros rest then Ends else Broken)
    else if nat_lt (length rest) (first_end a rest) then Broken
    else OneNote (first_note a rest) (min (first_end a rest + bytes_to_alignment a (first_end a rest)) (length rest))

-- the notes that a table has, up to the offset where it is cut, if it is
pub record NoteScan : Type 0 where
  pub notes : List Note
  pub cut : Option ℕ

-- a note before the notes after it
abbrev pub with_note : Note → NoteScan → NoteScan
with_note note walk = record { notes = note ∷ walk.notes; cut = walk.cut }

-- the notes of the bytes at an offset, up to the offset where they are cut: where no note is, or
-- where this many steps have not reached the end
unfoldable pub walk_from : ℕ → ℕ → ℕ → List ℕ → NoteScan
walk_from a zero offset rest = record { notes = []; cut = Some offset }
walk_from a (suc most) offset rest =
    elim (next_note a rest) [
      | Ends ↦ record { notes = []; cut = None }
      | Broken ↦ record { notes = []; cut = Some offset }
      | OneNote note size ↦ with_note note (walk_from a most (offset + size) (drop size rest))
    ]

-- the notes of a table
unfoldable pub walked : ℕ → List ℕ → NoteScan
walked a table = walk_from a (suc (length table)) 0 table
