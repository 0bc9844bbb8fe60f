-- The relocations of a file that its dynamic entries locate.
use Rattle.std.specs.Prelude.{ℕ, ◌≡◌, ◌+◌, ◌*◌, List, ◌++◌, Option, None, Some, Result, Ok, Err, option_map}
use Rattle.elf_model.specs.Prelude.{IsBudgetRefusal, LocatedTable, dynamic_segment_index, first_refusal, form_size, header_checks, load_checks, located_table, overlap_checks, segment_at, segment_dynamic_checks}
use Rattle.elf_model.specs.declared.causes.Refusal.{Refusal}
use Rattle.elf_model.specs.declared.relocation_tables.RelocationTable.{RelocationTable}
use Rattle.elf_source.specs.Source.{CountedState}
use Rattle.elf_table.specs.Prelude.{CallDid, CallReads, HoldsProgramHeaders, fault_of_result, strings}
use Rattle.elf_table.specs.declared.fault.Fault.{Fault}
use Rattle.elf_table.specs.declared.fault.Fault.TheVariants.{Refused, Source}
use Rattle.elf_table.specs.declared.segment_view.ExecutionView.{ExecutionView}
use Rattle.elf_hash.specs.Loading.{segments_load_cost}
use Rattle.elf_hash.specs.Prelude.{entries_asked}
use Rattle.elf_hash.specs.declared.relocation_tables.TableLocation.{TableLocation}
use Rattle.elf_capi.specs.Rows.{rows_from_first}
use Rattle.elf_capi.specs.declared.rows.RowPosition.{RowPosition}

-- A TABLE OF RELOCATIONS by the entries of a segment, whose checks pass
abbrev pub table_of_segment : List ℕ → RelocationTable → (segment : ℕ) → Result (Option LocatedTable) Refusal
table_of_segment file table segment = elim (first_refusal (segment_dynamic_checks file (segment_at file segment))) [
  | Some refusal ↦ Err refusal
  | None ↦ located_table file (segment_at file segment) table
]

-- by the first segment of dynamic entries, if there is one
abbrev pub table_of_segments : List ℕ → RelocationTable → Result (Option LocatedTable) Refusal
table_of_segments file table = elim (dynamic_segment_index file) [
  | None ↦ Ok None
  | Some segment ↦ table_of_segment file table segment
]

-- if no LOAD segment overlaps another
abbrev pub table_apart : List ℕ → RelocationTable → Result (Option LocatedTable) Refusal
table_apart file table = elim (first_refusal (overlap_checks file)) [
  | Some refusal ↦ Err refusal
  | None ↦ table_of_segments file table
]

-- THE TABLE THAT A LOADER FINDS in a file, or the first refusal
abbrev pub located_of : List ℕ → (headers : ℕ) → RelocationTable → Result (Option LocatedTable) Refusal
located_of file headers table = elim (first_refusal (header_checks file ++ load_checks file headers)) [
  | Some refusal ↦ Err refusal
  | None ↦ table_apart file table
]

-- how many bytes that reads at most: the headers, and the dynamic entries
abbrev pub located_table_cost : List ℕ → (headers : ℕ) → ℕ
located_table_cost file headers = segments_load_cost file headers + entries_asked file

-- the same for a source of this size, for any bytes
abbrev pub located_bytes : (size headers : ℕ) → ℕ
located_bytes size headers = 64 + headers * 56 + size

-- a position before the first row of a table, without a string table
abbrev pub located_position : LocatedTable → RowPosition
located_position found = rows_from_first (record { at = found.place; count = found.count; entry = form_size found.form }) (strings 0 0)

-- it is returned, if there is one, or the refusal, except one for lack of budget
abbrev pub ReturnsTable : {X : Type 0} → (LocatedTable → X) → Result (Option LocatedTable) Refusal → Result (Option X) Fault → Type 0
ReturnsTable make told (Ok found) = (table : Option LocatedTable) × (told ≡ Ok table) × (found ≡ option_map make table)
ReturnsTable make told (Err (Refused refusal)) = (IsBudgetRefusal refusal → ⊥) → told ≡ Err refusal
ReturnsTable make told (Err (Source fault at)) = Unit {0}

-- a table as code has it
abbrev pub as_location : LocatedTable → TableLocation
as_location found = record { form = found.form; table = record { at = found.place; count = found.count; entry = form_size found.form } }

-- WHAT IS FOUND in a loaded file: within the bytes of its dynamic entries
abbrev pub FindsLocatedIn : ExecutionView → RelocationTable → CountedState → CountedState → Result (Option TableLocation) Fault → Type 0
FindsLocatedIn view table old new result =
    CallDid old new (fault_of_result result) old.seen.size (λ file.
    HoldsProgramHeaders file view.loaded view.store.now
    → CallReads old new (fault_of_result result) (entries_asked file) × ReturnsTable as_location (table_apart file table) result)

-- WHAT IS FOUND in a file, if it is known
pub record FindsLocated (file : List ℕ) (headers : ℕ) (table : RelocationTable) (old new : CountedState) (result : Result (Option RowPosition) Fault) : Type 0 where
  pub costs : CallReads old new (fault_of_result result) (located_table_cost file headers)
  pub tells : ReturnsTable located_position (located_of file headers table) result
