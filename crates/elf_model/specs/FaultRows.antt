-- The row at fault: which row of a listing the file offset of a refusal is in. Of several tables
-- that have the offset the first counts.
use Rattle.std.specs.Prelude.{ℕ, ◌-◌, ◌*◌, ◌/◌, ◌==◌, ◌&&◌, ◌||◌, nat_lt, is_some, if◌then◌else◌, Bool, List, Option, None, Some}
use Rattle.elf_model.specs.Checks.{HeaderCounts, counts_in}
use Rattle.elf_model.specs.Cost.{needs_segments}
use Rattle.elf_model.specs.Find.{first_that}
use Rattle.elf_model.specs.HeaderTables.{HeaderTable, file_sections, header_field}
use Rattle.elf_model.specs.Numbers.{PT_DYNAMIC, PT_NOTE, SHT_DYNAMIC, SHT_DYNSYM, SHT_GNU_VERDEF, SHT_GNU_VERNEED, SHT_GNU_VERSYM, SHT_NOTE, SHT_REL, SHT_RELA, SHT_RELR, SHT_SYMTAB}
use Rattle.elf_model.specs.PlaceFilters.{range_has, range_if}
use Rattle.elf_model.specs.Records.{FILE_HEADER_SIZE, PROGRAM_HEADER_SIZE, SECTION_HEADER_SIZE, e_phnum, e_shnum, p_filesz, p_offset, p_type, segment_at, sh_offset, sh_size, sh_type}
use Rattle.elf_model.specs.Style.{ListingStyle}
use Rattle.elf_model.specs.Tables.{DYNAMIC_SIZE, RELA_SIZE, RELR_SIZE, REL_SIZE, SYMBOL_SIZE}
use Rattle.elf_model.specs.Versions.{VERSYM_SIZE}
use Rattle.elf_model.specs.declared.fault_rows.FaultRow.{FaultRow}
use Rattle.elf_model.specs.declared.fault_rows.FaultRow.TheVariants.{FileHeader, ProgramHeader, Section, SectionHeader, Segment, NoRow}
use Rattle.elf_model.specs.declared.place_filters.PlaceRange.{PlaceRange}

-- the size of the entries of a section of a type whose rows are listed, 0 if they have several
-- sizes; none if no rows of such a section are listed
abbrev pub section_entry_size : ℕ → Option ℕ
section_entry_size type =
    if type == SHT_SYMTAB || type == SHT_DYNSYM then Some SYMBOL_SIZE
    else if type == SHT_RELA then Some RELA_SIZE
    else if type == SHT_REL then Some REL_SIZE
    else if type == SHT_RELR then Some RELR_SIZE
    else if type == SHT_DYNAMIC then Some DYNAMIC_SIZE
    else if type == SHT_GNU_VERSYM then Some VERSYM_SIZE
    else if type == SHT_NOTE || (type == SHT_GNU_VERDEF || type == SHT_GNU_VERNEED) then Some 0
    else None

-- the same of a segment
abbrev pub segment_entry_size : ℕ → Option ℕ
segment_entry_size type =
    if type == PT_DYNAMIC then Some DYNAMIC_SIZE
    else if type == PT_NOTE then Some 0
    else None

-- the index of the row that has an offset, of this many rows of one size from a start
abbrev pub row_index : (start size count at : ℕ) → Option ℕ
row_index start size count at =
    if range_has (record { start = start; size = size * count }) at then Some ((at - start) / size) else None

-- the bytes of a table, if its header describes one whose rows are listed
abbrev pub listed_range : Option ℕ → (start size : ℕ) → PlaceRange
listed_range entry_size start size = range_if (is_some entry_size) start size

-- the number of the entry that has an offset, in a table from a start
abbrev pub entry_number : Option ℕ → (start at : ℕ) → Option ℕ
entry_number None start at = None
entry_number (Some size) start at = if size == 0 then None else Some ((at - start) / size)

-- a section that is listed has an offset
abbrev pub is_in_section : HeaderTable → (at i : ℕ) → Bool
is_in_section headers at i =
    range_has
    (listed_range (section_entry_size (header_field headers sh_type i)) (header_field headers sh_offset i) (header_field headers sh_size i))
    at

-- a segment that is listed has it
abbrev pub is_in_segment : HeaderTable → (at i : ℕ) → Bool
is_in_segment headers at i =
    range_has
    (listed_range (segment_entry_size (header_field headers p_type i)) (header_field headers p_offset i) (header_field headers p_filesz i))
    at

-- the entry at an offset, of the first segment that has it
unfoldable pub row_in_segments : HeaderTable → ℕ → FaultRow
row_in_segments headers at = elim (first_that (is_in_segment headers at) 0 headers.count) [
  | None ↦ NoRow
  | Some i ↦ Segment i (entry_number (segment_entry_size (header_field headers p_type i)) (header_field headers p_offset i) at)
]

-- the entry at an offset, of the first section that has it, or else of the first segment
unfoldable pub row_in_tables : (sections segments : HeaderTable) → ℕ → FaultRow
row_in_tables sections segments at = elim (first_that (is_in_section sections at) 0 sections.count) [
  | None ↦ row_in_segments segments at
  | Some i ↦ Section i (entry_number (section_entry_size (header_field sections sh_type i)) (header_field sections sh_offset i) at)
]

-- THE ROW at an offset: the file header, a section header, a program header, or an entry of a table
-- that these headers describe
unfoldable pub row_among : HeaderCounts → (sections segments : HeaderTable) → ℕ → FaultRow
row_among e sections segments at =
    if nat_lt at FILE_HEADER_SIZE then FileHeader
    else elim (row_index e.shoff SECTION_HEADER_SIZE e.shnum at) [
      | Some i ↦ SectionHeader i
      | None ↦ elim (row_index e.phoff PROGRAM_HEADER_SIZE e.phnum at) [
        | Some i ↦ ProgramHeader i
        | None ↦ row_in_tables sections segments at
      ]
    ]

-- the program headers in which tables are found: those of a file without section headers, if the
-- parts of a style need them
abbrev pub table_segments : List ℕ → ListingStyle → (parts : ℕ) → HeaderTable
table_segments file style parts = record {
  count = if e_shnum file == 0 && needs_segments file style parts then e_phnum file else 0;
  bytes = λ i. file;
  at = segment_at file;
}

-- THE ROW at an offset of a file, of these parts of its listing in a style
abbrev pub fault_row : List ℕ → ListingStyle → (parts at : ℕ) → FaultRow
fault_row file style parts at = row_among (counts_in file) (file_sections file) (table_segments file style parts) at
