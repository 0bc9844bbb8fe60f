-- The note header as a record of fields.
use Rattle.std.specs.Prelude.{ℕ, ◌≡◌, ◌+◌, List, [], ◌∷◌}
use Rattle.elf_model.specs.Bytes.{field}
use Rattle.elf_record.specs.Parts.{RecordField, Number}
use Rattle.elf_record.specs.declared.note_head.NoteHead.{NoteHead}

-- at an offset is a note header with these fields, each at its place (gABI 5, Note Section)
pub record IsNoteHead (file : List ℕ) (at : ℕ) (r : NoteHead) : Type 0 where
  pub namesz : r.namesz ≡ field file at 4
  pub descsz : r.descsz ≡ field file (at + 4) 4
  pub kind : r.kind ≡ field file (at + 8) 4

-- a note header's parts, in their order
abbrev pub note_head_parts : NoteHead → List RecordField
note_head_parts r = Number 4 r.namesz ∷ Number 4 r.descsz ∷ Number 4 r.kind ∷ []
