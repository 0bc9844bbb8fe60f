-- The dynamic entries of a segment of a file in memory.
use Rattle.std.specs.Prelude.{ℕ, ◌≡◌, ◌≢◌, ◌<◌, ◌≤◌, ◌⊎◌, List, Option, None, Some, Result, Ok, Err}
use Rattle.elf_model.specs.Prelude.{PT_DYNAMIC, e_phnum, p_type, segment_at}
use Rattle.elf_model.specs.declared.causes.Refusal.{Refusal}
use Rattle.elf_table.specs.Prelude.{TableRange as Table, dynamic_table_at, strings}
use Rattle.elf_table.specs.declared.fault.Fault.TheVariants.{Refused}
use Rattle.elf_capi.specs.Checked.{first_refused}
use Rattle.elf_capi.specs.ListedEntries.{all_listed}
use Rattle.elf_capi.specs.Rows.{rows_from_first}
use Rattle.elf_capi.specs.declared.rows.RowPosition.{RowPosition}

-- the file has a segment at this index, of type DYNAMIC
abbrev HasEntries : List ℕ → ℕ → Type 0
HasEntries file index = (index < e_phnum file) × (p_type file (segment_at file index) ≡ PT_DYNAMIC)

-- all entries of a segment, whose checks pass; or that there is no such segment, or that it holds
-- none; or the first check that fails
abbrev pub FindsEntries : List ℕ → ℕ → Result (Option Table) Refusal → Type 0
FindsEntries file index (Ok (Some table)) = (first_refused file ≡ None) × HasEntries file index × (dynamic_table_at file (segment_at file index) ≡ Ok table)
FindsEntries file index (Ok None) = (first_refused file ≡ None) × ((e_phnum file ≤ index) ⊎ (p_type file (segment_at file index) ≢ PT_DYNAMIC))
FindsEntries file index (Err refusal) =
    (first_refused file ≡ Some refusal)
    ⊎ ((first_refused file ≡ None) × HasEntries file index × (dynamic_table_at file (segment_at file index) ≡ Err (Refused refusal)))

-- WHAT A CALLER HAS of the dynamic entries of a segment: a position before the first of those that
-- are listed, without strings; or that the file has no such segment, or that it holds none; or the
-- first check that fails
abbrev pub ReadsSegmentDynamic : List ℕ → ℕ → Result (Option RowPosition) Refusal → Type 0
ReadsSegmentDynamic file index (Ok (Some rows)) =
    (table : Table) × FindsEntries file index (Ok (Some table)) × (rows ≡ all_listed file (rows_from_first table (strings 0 0)))
ReadsSegmentDynamic file index (Ok None) = FindsEntries file index (Ok None)
ReadsSegmentDynamic file index (Err refusal) = FindsEntries file index (Err refusal)
