-- The first list of properties in the notes of a file, and the feature bits in it.
use Rattle.std.specs.Prelude.{ℕ, ◌≡◌, ◌+◌, ◌≤◌, ◌==◌, true, false, suc, List, length, Option, None, Some, Result, Ok, Err, IfSome}
use Rattle.elf_model.specs.Prelude.{IsBudgetRefusal, NoteScan, PT_NOTE, PropertyList, TRAIT_NAME_BYTES, e_phnum, file_segments, first_listing, listed_in, note_align, note_rows, p_type, properties_asked, property_list, segment_at, segment_notes, slice, sum_over, table_cost, walk_from, x86_feature_word}
use Rattle.elf_model.specs.declared.causes.Cause.TheVariants.{NoteCut}
use Rattle.elf_model.specs.declared.causes.Refusal.{Refusal}
use Rattle.elf_source.specs.Source.{CountedState}
use Rattle.elf_table.specs.Prelude.{CallReads, TableRange, fault_of_result}
use Rattle.elf_table.specs.declared.fault.Fault.{Fault}
use Rattle.elf_table.specs.declared.fault.Fault.TheVariants.{Refused, Source}
use Rattle.elf_loader.specs.Features.{ReturnsValue}
use Rattle.elf_loader.specs.declared.trait_notes.PropertyRange.{PropertyRange}

-- the first list among the notes of a walk at an offset, or the offset of a malformed note before
-- it
abbrev pub list_among : (align at : ℕ) → NoteScan → Result (Option PropertyList) Refusal
list_among align at walk = elim (first_listing (note_rows align at walk.notes)) [
  | Some row ↦ Ok (Some (record { place = row.descriptor_at; bytes = row.note.descriptor }))
  | None ↦ elim walk.cut [ Some place ↦ Err (record { at = place; cause = NoteCut }) | None ↦ Ok None ]
]

-- the first list in a table of notes with the alignment of its header
abbrev pub first_list : List ℕ → (align : ℕ) → TableRange → Result (Option PropertyList) Refusal
first_list file align table =
    list_among (note_align align) table.at
    (walk_from (note_align align) (suc (length (slice file table.at table.count))) table.at (slice file table.at table.count))

-- the range of a list, in the terms of the model
abbrev pub is_list : List ℕ → PropertyRange → PropertyList
is_list file list = record { place = list.at; bytes = slice file list.at list.size }

-- a list, or none, is that of the definitions, and so is a refusal, unless that is `Budget`
abbrev pub ReturnsList : List ℕ → Result (Option PropertyList) Refusal → Result (Option PropertyRange) Fault → Type 0
ReturnsList file told (Ok None) = told ≡ Ok None
ReturnsList file told (Ok (Some list)) = told ≡ Ok (Some (is_list file list))
ReturnsList file told (Err (Refused refusal)) = (IsBudgetRefusal refusal → ⊥) → told ≡ Err refusal
ReturnsList file told (Err (Source fault at)) = Unit {0}

-- a list lies within a source of this size
abbrev pub ListInBounds : ℕ → Option PropertyRange → Type 0
ListInBounds size found = IfSome found (λ list. list.at + list.size ≤ size)

-- how many bytes the notes of the program header of an index request
abbrev pub notes_asked : List ℕ → ℕ → ℕ
notes_asked file i = table_cost segment_notes (file_segments file) i (length file) TRAIT_NAME_BYTES

-- the list of properties by the program header of an index
abbrev pub list_at : List ℕ → ℕ → Result (Option PropertyList) Refusal
list_at file i = elim (p_type file (segment_at file i) == PT_NOTE) [ false ↦ Ok None | true ↦ listed_in file (segment_at file i) ]

-- THE FIRST LIST OF A SEGMENT of a known file, within what its notes request
pub record FindsList (file : List ℕ) (i : ℕ) (old new : CountedState) (result : Result (Option PropertyRange) Fault) : Type 0 where
  pub costs : CallReads old new (fault_of_result result) (notes_asked file i)
  pub finds : ReturnsList file (list_at file i) result

-- how many bytes the notes of all segments request
abbrev pub all_notes_asked : List ℕ → ℕ
all_notes_asked file = sum_over (notes_asked file) 0 (e_phnum file)

-- THE FIRST LIST OF A FILE
pub record FindsLists (file : List ℕ) (old new : CountedState) (result : Result (Option PropertyRange) Fault) : Type 0 where
  pub costs : CallReads old new (fault_of_result result) (all_notes_asked file)
  pub finds : ReturnsList file (property_list file) result

-- THE X86 FEATURE BITS in it
pub record FindsFeatures (file : List ℕ) (old new : CountedState) (result : Result ℕ Fault) : Type 0 where
  pub costs : CallReads old new (fault_of_result result) (properties_asked file)
  pub finds : ReturnsValue (x86_feature_word file) result
