-- How many bytes the traits of a file read at most, and their upper bound.
use Rattle.std.specs.Prelude.{ℕ, ◌+◌, ◌-◌, ◌*◌, ◌/◌, ◌==◌, List, length, None, Some, Result, Ok, Err}
use Rattle.elf_model.specs.Checks.{first_refusal, pass, before_headers}
use Rattle.elf_model.specs.Cost.{cost_where, sum_over, table_cost}
use Rattle.elf_model.specs.GnuHash.{gnu_nbucket}
use Rattle.elf_model.specs.HeaderTables.{file_segments}
use Rattle.elf_model.specs.LoaderFind.{segments_asked}
use Rattle.elf_model.specs.LoaderScope.{GnuTable, SysvTable, LookupTables, dynamic_segment_index}
use Rattle.elf_model.specs.Names.{name_bytes, pad64}
use Rattle.elf_model.specs.Numbers.{EM_X86_64}
use Rattle.elf_model.specs.Properties.{property_list}
use Rattle.elf_model.specs.Records.{FILE_HEADER_SIZE, PROGRAM_HEADER_SIZE, SECTION_HEADER_SIZE, e_machine, e_phnum, e_shnum, p_filesz, segment_at}
use Rattle.elf_model.specs.Style.{without_sections}
use Rattle.elf_model.specs.TableKinds.{segment_notes}
use Rattle.elf_model.specs.Tables.{SYMBOL_SIZE, segment_dynamic_checks}
use Rattle.elf_model.specs.Traits.{STACK_SECTION, TRAIT_NAME_BYTES, hashed_symbol_count, is_relocatable, known_symbols, traits_by_segments}
use Rattle.elf_model.specs.declared.causes.Refusal.{Refusal}
use Rattle.elf_model.specs.declared.traits.Hardening.{Hardening}

-- the first table of dynamic entries, if its checks pass
unfoldable pub trait_entries_asked : List ℕ → ℕ
trait_entries_asked file = elim (dynamic_segment_index file) [
  | None ↦ 0
  | Some i ↦ cost_where (pass (segment_dynamic_checks file (segment_at file i))) (p_filesz file (segment_at file i))
]

-- the notes of all segments, each of whose bytes counts, and the list of properties
unfoldable pub properties_asked : List ℕ → ℕ
properties_asked file =
    cost_where (e_machine file == EM_X86_64)
    (sum_over (λ i. table_cost segment_notes (file_segments file) i (length file) TRAIT_NAME_BYTES) 0 (e_phnum file)
    + elim (property_list file) [ Err refusal ↦ 0 | Ok None ↦ 0 | Ok (Some list) ↦ length list.bytes ])

-- the words of a hash table that count the symbols: its counts, the buckets' words, and a chain's
unfoldable pub hash_words_asked : List ℕ → LookupTables → ℕ
hash_words_asked file scope = elim scope.kind [
  | GnuTable ↦ 16 + 4 * gnu_nbucket file scope.table.place + 4 * hashed_symbol_count file scope
  | SysvTable ↦ 8
]

-- each symbol with its name
unfoldable pub symbols_asked : List ℕ → ℕ
symbols_asked file = elim (known_symbols file) [
  | Err refusal ↦ 16
  | Ok None ↦ 0
  | Ok (Some scope) ↦
      hash_words_asked file scope + (hashed_symbol_count file scope - 1) * (SYMBOL_SIZE + name_bytes TRAIT_NAME_BYTES)
]

-- HOW MANY BYTES the traits of a file read at most, if it has no section headers: the file header;
-- the program headers and the dynamic entries, which are read twice; and what properties and
-- symbols read
unfoldable pub segment_traits_cost : List ℕ → ℕ → ℕ
segment_traits_cost file headers = elim (first_refusal (before_headers file headers)) [
  | Some refusal ↦ FILE_HEADER_SIZE
  | None ↦
      FILE_HEADER_SIZE + segments_asked file + trait_entries_asked file + properties_asked file + symbols_asked file
]

-- a section header, and the bytes of its section's name that are compared
abbrev pub named_section_bytes : ℕ
named_section_bytes = SECTION_HEADER_SIZE + pad64 (length STACK_SECTION + 1)

-- what the stack of a relocatable file reads after that: the file header again, and the section
-- headers with their names
unfoldable pub sections_asked : List ℕ → ℕ → ℕ
sections_asked file headers = elim (first_refusal (before_headers file headers)) [
  | Some refusal ↦ FILE_HEADER_SIZE
  | None ↦ FILE_HEADER_SIZE + e_shnum file * named_section_bytes
]

-- nothing for any other file
unfoldable pub stack_asked : List ℕ → ℕ → Result Hardening Refusal → ℕ
stack_asked file headers (Err refusal) = 0
stack_asked file headers (Ok t) = cost_where (is_relocatable t.kind) (sections_asked file headers)

-- of any file
unfoldable pub traits_cost : List ℕ → ℕ → ℕ
traits_cost file headers =
    segment_traits_cost (without_sections file) headers + stack_asked file headers (traits_by_segments (without_sections file) headers)

-- the upper bound of what the segments read
abbrev pub segment_traits_ceiling : (size headers : ℕ) → ℕ
segment_traits_ceiling size headers =
    FILE_HEADER_SIZE + headers * (PROGRAM_HEADER_SIZE + size) + 4 * size + 16
    + size / SYMBOL_SIZE * (SYMBOL_SIZE + name_bytes TRAIT_NAME_BYTES)

-- of all, only by the file's length and how many headers are allowed
unfoldable pub traits_ceiling : (size headers : ℕ) → ℕ
traits_ceiling size headers = segment_traits_ceiling size headers + (FILE_HEADER_SIZE + headers * named_section_bytes)
