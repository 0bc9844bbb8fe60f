-- The tables that a lookup searches in a file, and the cost of finding them.
use Rattle.std.specs.Prelude.{ℕ, ◌+◌, ◌*◌, ◌==◌, true, false, List, None, Some, Result}
use Rattle.elf_model.specs.Prelude.{FILE_HEADER_SIZE, LookupTables as IsScopeOf, PROGRAM_HEADER_SIZE, SECTION_HEADER_SIZE, before_headers, cost_where, e_shnum, first_refusal, lookup_tables_by_segments, lookup_tables_of, scope_by_sections, segments_asked}
use Rattle.elf_model.specs.declared.causes.Refusal.{Refusal}
use Rattle.elf_record.specs.declared.ehdr.Ehdr.{Ehdr}
use Rattle.elf_source.specs.Source.{CountedState}
use Rattle.elf_table.specs.Prelude.{CallReads, fault_of_result}
use Rattle.elf_table.specs.declared.fault.Fault.{Fault}
use Rattle.elf_hash.specs.LookupTablesFound.{FindsLookupTables}
use Rattle.elf_hash.specs.declared.lookup_tables.LookupTables.{LookupTables}

-- the tables that a lookup searches in a file whose load checks pass
abbrev pub scope_loaded : List ℕ → Result IsScopeOf Refusal
scope_loaded file = elim (e_shnum file == 0) [ true ↦ lookup_tables_by_segments file | false ↦ scope_by_sections file ]

-- how many bytes it may request, under a limit on headers: the file header, and if the early checks
-- pass the headers
abbrev pub scope_cost : List ℕ → ℕ → ℕ
scope_cost file headers = elim (first_refusal (before_headers file headers)) [
  | Some refusal ↦ FILE_HEADER_SIZE
  | None ↦ FILE_HEADER_SIZE + SECTION_HEADER_SIZE * e_shnum file + segments_asked file
]

-- THE TABLES THAT A LOOKUP SEARCHES in a file, if it is known
pub record FindsScope (file : List ℕ) (headers : ℕ) (old new : CountedState) (result : Result LookupTables Fault) : Type 0 where
  pub costs : CallReads old new (fault_of_result result) (scope_cost file headers)
  pub finds : FindsLookupTables file (lookup_tables_of file headers) result

-- how many bytes are requested after the section headers in a file of this size: the program
-- headers and the dynamic entries, if there are no sections
abbrev pub segments_bytes : Ehdr → ℕ → ℕ
segments_bytes header size = cost_where (header.e_shnum == 0) (PROGRAM_HEADER_SIZE * header.e_phnum + size)
