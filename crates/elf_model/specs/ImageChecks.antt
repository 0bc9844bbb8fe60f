-- What is checked before a segment is relocated: the file, its LOAD segments and its dynamic entries
-- (gABI 5, Program Header, Dynamic Section).
use Rattle.std.specs.Prelude.{ℕ, ◌+◌, ◌*◌, ◌/◌, ◌%◌, ◌^◌, ◌==◌, ◌&&◌, ◌||◌, nat_lt, not, is_some, if◌then◌else◌, Bool, true, false, List, [], ◌∷◌, ◌++◌, length, flat_map, map, Option, None, Some, Result, Ok, Err}
use Rattle.std.specs.List.{list_any}
use Rattle.elf_model.specs.Apply.{places_from}
use Rattle.elf_model.specs.Checks.{Check, header_checks, is_outside, load_checks, refuse}
use Rattle.elf_model.specs.Dynamic.{dynamic_at, dynamic_count}
use Rattle.elf_model.specs.DynamicRelocations.{LocatedTable, located_table, tags_of}
use Rattle.elf_model.specs.LoaderScope.{checks_of_row, dynamic_segment_index, rest_checks, tagged_row}
use Rattle.elf_model.specs.Numbers.{DT_JMPREL, DT_PLTREL, DT_PLTRELSZ, DT_REL, DT_RELA, DT_RELACOUNT, DT_RELAENT, DT_RELASZ, DT_RELENT, DT_RELR, DT_RELRENT, DT_RELRSZ, DT_RELSZ, DT_SYMTAB, EM_X86_64, PT_LOAD}
use Rattle.elf_model.specs.Overlaps.{PAGE_SIZE, overlap_checks}
use Rattle.elf_model.specs.Records.{d_tag, d_un, e_machine, e_phnum, e_type, p_filesz, p_memsz, p_offset, p_type, p_vaddr, segment_at}
use Rattle.elf_model.specs.Tables.{DYNAMIC_SIZE, RELA_SIZE, segment_dynamic_checks}
use Rattle.elf_model.specs.TraitNumbers.{DT_FLAGS, DT_TEXTREL, is_linked_type}
use Rattle.elf_model.specs.declared.causes.Cause.TheVariants.{BadLink, Budget, LoadAlign, NotImage, Repeat, TableOutside, Unsupported}
use Rattle.elf_model.specs.declared.causes.Refusal.{Refusal}
use Rattle.elf_model.specs.declared.relocation_tables.RelocationTable.{RelocationTable}
use Rattle.elf_model.specs.declared.relocation_tables.RelocationTable.TheVariants as table

-- CHECKS. The file is a program or a shared library for x86-64
unfoldable pub kind_checks : List ℕ → List Check
kind_checks file =
    refuse (not (is_linked_type (e_type file))) 0x10 NotImage
    ∷ refuse (not (e_machine file == EM_X86_64)) 0x12 NotImage
    ∷ []

-- A program header, if it is of a LOAD segment: its address and its offset differ by whole pages, it
-- has no more bytes in the file than in memory, those are within the file, and these end at most at
-- 2^64
abbrev pub segment_load_checks : List ℕ → ℕ → List Check
segment_load_checks file at =
    if p_type file at == PT_LOAD then
    refuse (not (p_vaddr file at % PAGE_SIZE == p_offset file at % PAGE_SIZE)) at LoadAlign
    ∷ refuse
    (nat_lt (p_memsz file at) (p_filesz file at)
    || (is_outside (length file) (p_offset file at) (p_filesz file at) || nat_lt (2 ^ 64) (p_vaddr file at + p_memsz file at)))
    at TableOutside
    ∷ []
    else []

-- all of them
unfoldable pub segments_load_checks : List ℕ → List Check
segments_load_checks file = flat_map (segment_load_checks file) (places_from (segment_at file) 0 (e_phnum file))

-- the program header of an index is of a LOAD segment with at most this many bytes in memory
unfoldable pub requested_checks : List ℕ → (segment most : ℕ) → List Check
requested_checks file segment most =
    let at = segment_at file segment in
    refuse (not (nat_lt segment (e_phnum file)) || not (p_type file at == PT_LOAD)) 0x38 BadLink
    ∷ refuse (nat_lt most (p_memsz file at)) at Budget
    ∷ []

-- the offsets of the dynamic entries up to and with the first DT_NULL
abbrev pub image_rows_of : List ℕ → ℕ → List ℕ
image_rows_of file at =
    places_from (dynamic_at (p_offset file at)) 0 (dynamic_count file (p_offset file at) (p_filesz file at / DYNAMIC_SIZE))

-- the tags of entries on which an image depends
unfoldable pub image_tags : List ℕ
image_tags =
    DT_PLTRELSZ ∷ DT_SYMTAB ∷ DT_RELA ∷ DT_RELASZ ∷ DT_RELAENT ∷ DT_REL ∷ DT_RELSZ ∷ DT_RELENT ∷ DT_PLTREL ∷ DT_TEXTREL
    ∷ DT_JMPREL ∷ DT_FLAGS ∷ DT_RELRSZ ∷ DT_RELR ∷ DT_RELRENT ∷ DT_RELACOUNT ∷ []

-- an entry before another has its tag
abbrev pub is_repeated : List ℕ → (at row : ℕ) → Bool
is_repeated file at row = elim (tagged_row file at (d_tag file row)) [ None ↦ false | Some first ↦ not (first == row) ]

-- none of them has the tag of one before it: loaders differ in which of two they use
unfoldable pub repeat_checks : List ℕ → ℕ → List Check
repeat_checks file at =
    map (λ row. refuse (list_any (λ tag. tag == d_tag file row) image_tags && is_repeated file at row) row Repeat) (image_rows_of file at)

-- there are no entries without addends
unfoldable pub addend_checks : List ℕ → ℕ → List Check
addend_checks file at =
    checks_of_row (tagged_row file at DT_REL) (λ row.
    refuse (elim (tagged_row file at DT_RELSZ) [ None ↦ true | Some size_row ↦ not (d_un file size_row == 0) ]) row Unsupported ∷ [])
    ++ checks_of_row (tagged_row file at DT_JMPREL) (λ row.
    checks_of_row (tagged_row file at DT_PLTREL) (λ kind_row. refuse (not (d_un file kind_row == DT_RELA)) kind_row Unsupported ∷ []))

-- TABLES. One that dynamic entries locate, or its refusal
abbrev pub located_checks : Result (Option LocatedTable) Refusal → List Check
located_checks (Ok located) = []
located_checks (Err refusal) = record { fails = true; refusal = refusal } ∷ []

-- the value of the first entry with a tag, or 0
abbrev pub row_value : List ℕ → (at tag : ℕ) → ℕ
row_value file at tag = elim (tagged_row file at tag) [ None ↦ 0 | Some row ↦ d_un file row ]

-- its address, the offset of its first row in the file, and how many rows it has
pub record LoadedTable : Type 0 where
  pub address : ℕ
  pub place : ℕ
  pub count : ℕ

abbrev pub loaded_if_located : (address : ℕ) → Result (Option LocatedTable) Refusal → Option LoadedTable
loaded_if_located address (Ok (Some located)) = Some (record { address = address; place = located.place; count = located.count })
loaded_if_located address (Ok None) = None
loaded_if_located address (Err refusal) = None

-- the table, if it has a row
unfoldable pub loaded_table : List ℕ → (at : ℕ) → RelocationTable → Option LoadedTable
loaded_table file at table = loaded_if_located (row_value file at (tags_of table).address) (located_table file at table)

-- of relative relocations, of entries with addends, and of those of the procedure linkage table
abbrev pub relative_table : List ℕ → ℕ → Option LoadedTable
relative_table file at = loaded_table file at table.Relr

abbrev pub rela_table : List ℕ → ℕ → Option LoadedTable
rela_table file at = loaded_table file at table.Rela

abbrev pub linkage_table : List ℕ → ℕ → Option LoadedTable
linkage_table file at = loaded_table file at table.Jmprel

-- the address at which a table of entries with addends ends
abbrev pub entries_end : LoadedTable → ℕ
entries_end table = table.address + RELA_SIZE * table.count

-- the entries of the procedure linkage table are the last of those with addends: these are no fewer
unfoldable pub linkage_checks : List ℕ → ℕ → List Check
linkage_checks file at = elim (rela_table file at) [
  | None ↦ []
  | Some entries ↦ elim (linkage_table file at) [
    | None ↦ []
    | Some calls ↦ checks_of_row (tagged_row file at DT_JMPREL) (λ row.
        refuse (entries_end calls == entries_end entries && nat_lt entries.count calls.count) row Unsupported ∷ [])
  ]
]

-- the symbols are those at the rest of a LOAD segment, if there are entries
unfoldable pub image_symbol_checks : List ℕ → ℕ → List Check
image_symbol_checks file at =
    if is_some (rela_table file at) || is_some (linkage_table file at) then checks_of_row (tagged_row file at DT_SYMTAB) (rest_checks file)
    else []

-- all checks of the dynamic entries
unfoldable pub dynamic_image_checks : List ℕ → ℕ → List Check
dynamic_image_checks file at =
    segment_dynamic_checks file at
    ++ repeat_checks file at
    ++ addend_checks file at
    ++ located_checks (located_table file at table.Relr)
    ++ located_checks (located_table file at table.Rela)
    ++ located_checks (located_table file at table.Jmprel)
    ++ image_symbol_checks file at
    ++ linkage_checks file at

-- THE CHECKS BEFORE THE RELOCATIONS, with this many headers allowed and more checks, those of a
-- request, before the dynamic entries
unfoldable pub image_checks : List ℕ → (headers : ℕ) → List Check → List Check
image_checks file headers requested =
    (header_checks file ++ load_checks file headers)
    ++ overlap_checks file
    ++ kind_checks file
    ++ segments_load_checks file
    ++ requested
    ++ elim (dynamic_segment_index file) [ None ↦ [] | Some index ↦ dynamic_image_checks file (segment_at file index) ]
