-- Properties of a program (Linux Extensions to gABI, Program Property; x86-64 psABI, Program
-- Property): the descriptor of a GNU note is a list of them, each with a type, the size of its
-- data, and the data, which is padded to 8 bytes.
use Rattle.std.specs.Prelude.{ℕ, zero, suc, ◌+◌, ◌==◌, ◌&&◌, min, nat_eq, nat_lt, Bool, true, false, if◌then◌else◌, List, [], ◌∷◌, length, drop, codes, Option, None, Some, Result, Ok, Err}
use Rattle.std.specs.List.{starts_with}
use Rattle.elf_model.specs.Bytes.{field, number, slice}
use Rattle.elf_model.specs.Checks.{first_refusal, range_checks_of, unless_empty}
use Rattle.elf_model.specs.Notes.{Note, NoteRow, before_nul, note_align, note_rows, bytes_to_alignment, walked}
use Rattle.elf_model.specs.Numbers.{PT_NOTE}
use Rattle.elf_model.specs.Records.{e_phnum, p_type, p_offset, p_filesz, p_align, segment_at}
use Rattle.elf_model.specs.declared.causes.Cause.TheVariants.{NoteCut}
use Rattle.elf_model.specs.declared.causes.Refusal.{Refusal}

-- the type of a GNU note whose descriptor is a list of properties
abbrev pub NT_GNU_PROPERTY_TYPE_0 : ℕ
NT_GNU_PROPERTY_TYPE_0 = 5

-- the type of the property that says which x86 features all code of the file supports, each a bit:
-- indirect branches go only to marked targets; returns use a shadow stack (x86-64 psABI, Program
-- Property)
abbrev pub GNU_PROPERTY_X86_FEATURE_1_AND : ℕ
GNU_PROPERTY_X86_FEATURE_1_AND = 0xc0000002

abbrev pub GNU_PROPERTY_X86_FEATURE_1_IBT : ℕ
GNU_PROPERTY_X86_FEATURE_1_IBT = 0x1

abbrev pub GNU_PROPERTY_X86_FEATURE_1_SHSTK : ℕ
GNU_PROPERTY_X86_FEATURE_1_SHSTK = 0x2

-- the header of a property, 8 bytes: its type, and the size of its data without padding
abbrev pub PROPERTY_HEAD_SIZE : ℕ
PROPERTY_HEAD_SIZE = 8

abbrev pub pr_type : List ℕ → ℕ → ℕ
pr_type bytes at = field bytes at 4

abbrev pub pr_datasz : List ℕ → ℕ → ℕ
pr_datasz bytes at = field bytes (at + 4) 4

-- A PROPERTY: its type and its data
pub record Property : Type 0 where
  pub kind : ℕ
  pub content : List ℕ

-- how many bytes a property has for the size of its data: without padding, and padded to 8
abbrev pub bare_property : ℕ → ℕ
bare_property datasz = PROPERTY_HEAD_SIZE + datasz

abbrev pub padded_property : ℕ → ℕ
padded_property datasz = bare_property datasz + bytes_to_alignment 8 datasz

-- what is at the start of the remaining bytes of a list: its end, nothing that is a property, or a
-- property and how many bytes it takes
pub data NextProperty : Type 0 where
  ListEnds : NextProperty
  NoProperty : NextProperty
  OneProperty : Property → ℕ → NextProperty

-- a list ends if no byte is left; a property has its header and its data within the list, but the
-- padding of the last may be missing
unfoldable pub next_property : List ℕ → NextProperty
next_property rest =
    if length rest == 0 then ListEnds
    else if nat_lt (length rest) PROPERTY_HEAD_SIZE then NoProperty
    else if nat_lt (length rest) (bare_property (pr_datasz rest 0)) then NoProperty
    else OneProperty
    (record { kind = pr_type rest 0; content = slice rest PROPERTY_HEAD_SIZE (pr_datasz rest 0) })
    (min (padded_property (pr_datasz rest 0)) (length rest))

-- the properties of a list, up to the offset where it is cut, if it is
pub record PropertyWalk : Type 0 where
  pub properties : List Property
  pub cut : Option ℕ

-- a property before those after it
abbrev pub with_property : Property → PropertyWalk → PropertyWalk
with_property property walk = record { properties = property ∷ walk.properties; cut = walk.cut }

-- the properties of the bytes at an offset, up to the offset where they are cut: where no property
-- is, or where this many steps have not reached the end
unfoldable pub properties_from : (most offset : ℕ) → List ℕ → PropertyWalk
properties_from zero offset rest = record { properties = []; cut = Some offset }
properties_from (suc most) offset rest =
    elim (next_property rest) [
      | ListEnds ↦ record { properties = []; cut = None }
      | NoProperty ↦ record { properties = []; cut = Some offset }
      | OneProperty property size ↦ with_property property (properties_from most (offset + size) (drop size rest))
    ]

-- THE PROPERTIES that a descriptor lists: each step takes at least a header
unfoldable pub properties_in : List ℕ → PropertyWalk
properties_in descriptor = properties_from (suc (length descriptor)) 0 descriptor

-- a name is `GNU` with its NUL: it has four bytes, and those before the first NUL are these
abbrev pub is_gnu_name : List ℕ → Bool
is_gnu_name name =
    length name == 4 && (length (before_nul name) == 3 && starts_with nat_eq (before_nul name) (codes "GNU"))

-- a GNU note that lists properties: its type, and its name
abbrev pub is_property_note : Note → Bool
is_property_note note =
    note.kind == NT_GNU_PROPERTY_TYPE_0 && is_gnu_name note.name

-- the first such of some notes
unfoldable pub first_listing : List NoteRow → Option NoteRow
first_listing [] = None
first_listing (row ∷ rows) = elim (is_property_note row.note) [ true ↦ Some row | false ↦ first_listing rows ]

-- A LIST OF PROPERTIES in a file: its offset, and its bytes
pub record PropertyList : Type 0 where
  pub place : ℕ
  pub bytes : List ℕ

-- the first list of properties in the notes of a segment whose program header is at an offset:
-- within the file, otherwise the segment is refused at its program header; before the offset where
-- its notes are cut, otherwise they are refused there
unfoldable pub listed_in : List ℕ → ℕ → Result (Option PropertyList) Refusal
listed_in file at =
    let walk = walked (note_align (p_align file at)) (slice file (p_offset file at) (p_filesz file at)) in
    elim (first_refusal (unless_empty (p_filesz file at) (range_checks_of (length file) (p_offset file at) (p_filesz file at) at))) [
      | Some refusal ↦ Err refusal
      | None ↦ elim (first_listing (note_rows (note_align (p_align file at)) 0 walk.notes)) [
        | Some row ↦ Ok (Some (record { place = p_offset file at + row.descriptor_at; bytes = row.note.descriptor }))
        | None ↦ elim walk.cut [
          | Some place ↦ Err (record { at = p_offset file at + place; cause = NoteCut })
          | None ↦ Ok None
        ]
      ]
    ]

-- the first in the notes of this many program headers, from an index: later ones are not read
unfoldable pub listed_from : List ℕ → (first count : ℕ) → Result (Option PropertyList) Refusal
listed_from file first zero = Ok None
listed_from file first (suc count) =
    elim (p_type file (segment_at file first) == PT_NOTE) [
      | false ↦ listed_from file (suc first) count
      | true ↦ elim (listed_in file (segment_at file first)) [
        | Err refusal ↦ Err refusal
        | Ok (Some list) ↦ Ok (Some list)
        | Ok None ↦ listed_from file (suc first) count
      ]
    ]

-- THE LIST OF PROPERTIES of a file, by its program headers, if it has one
unfoldable pub property_list : List ℕ → Result (Option PropertyList) Refusal
property_list file = listed_from file 0 (e_phnum file)

-- the first of some properties with a type
unfoldable pub first_property : ℕ → List Property → Option Property
first_property kind [] = None
first_property kind (property ∷ properties) =
    elim (property.kind == kind) [ true ↦ Some property | false ↦ first_property kind properties ]

-- the word of a property with four bytes of data; one that is not there, or of another size, has no
-- bit
abbrev pub property_word : Option Property → ℕ
property_word None = 0
property_word (Some property) = if length property.content == 4 then number property.content else 0

-- the word of the x86 features in a list of properties: if the list is cut, it is refused at that
-- offset
unfoldable pub features_in : PropertyList → Result ℕ Refusal
features_in list =
    let walk = properties_in list.bytes in
    elim walk.cut [
      | Some offset ↦ Err (record { at = list.place + offset; cause = NoteCut })
      | None ↦ Ok (property_word (first_property GNU_PROPERTY_X86_FEATURE_1_AND walk.properties))
    ]
