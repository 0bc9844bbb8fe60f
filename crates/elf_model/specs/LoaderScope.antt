-- The tables in which a GNU loader looks a name up in one file: the hash table, of one of two
-- kinds, the symbols and their versions, found by the section headers, or if a file has none by the
-- program headers; and the checks before they are read.
use Rattle.std.specs.Prelude.{ℕ, ◌-◌, ◌/◌, ◌==◌, ◌&&◌, ◌||◌, nat_lt, not, is_none, Bool, true, false, List, [], ◌∷◌, ◌++◌, length, Option, None, Some, Result, Ok, Err}
use Rattle.elf_model.specs.Chains.{HashTable}
use Rattle.elf_model.specs.Checks.{Check, refuse, first_refusal, unless_empty, header_checks, load_checks, table_checks, is_outside}
use Rattle.elf_model.specs.Dynamic.{dynamic_count, dynamic_at}
use Rattle.elf_model.specs.Find.{first_that, hash_checks_from}
use Rattle.elf_model.specs.Loader.{VersymTable, VersionRecordTable, DynamicSymbols}
use Rattle.elf_model.specs.Mapped.{mapped_at, mapped_place, mapped_checks, mapped_bytes}
use Rattle.elf_model.specs.Numbers.{EM_ALPHA, SHT_HASH, SHT_GNU_HASH, SHT_GNU_VERSYM, SHT_GNU_VERDEF, SHT_GNU_VERNEED, PT_DYNAMIC, DT_HASH, DT_GNU_HASH, DT_SYMTAB, DT_STRTAB, DT_STRSZ, DT_VERSYM, DT_VERDEF, DT_VERNEED}
use Rattle.elf_model.specs.Records.{e_machine, e_shnum, e_phnum, sh_offset, sh_size, sh_link, section_at, p_type, p_offset, p_vaddr, p_filesz, segment_at, d_tag, d_un}
use Rattle.elf_model.specs.Overlaps.{overlap_checks}
use Rattle.elf_model.specs.SysvWalk.{section_table_of}
use Rattle.elf_model.specs.Tables.{SYMBOL_SIZE, DYNAMIC_SIZE, all_checks, linked_at, strings_of, entry_count, segment_dynamic_checks}
use Rattle.elf_model.specs.VersionRows.{first_of_type, version_table}
use Rattle.elf_model.specs.Versions.{VERSYM_SIZE}
use Rattle.elf_model.specs.declared.causes.Cause.TheVariants.{NoHash, HashShape, BadLink, TableOutside, Unmapped}
use Rattle.elf_model.specs.declared.causes.Refusal.{Refusal}
use Rattle.elf_model.specs.declared.versions.VersionKind.{VersionKind}
use Rattle.elf_model.specs.declared.versions.VersionKind.TheVariants.{Definition, File}

-- the kinds of hash tables: GNU; gABI
pub data HashStyle : Type 0 where
  GnuTable : HashStyle
  SysvTable : HashStyle

-- the minimum size of a table: its words before the others
abbrev pub least_size : HashStyle → ℕ
least_size GnuTable = 16
least_size SysvTable = 8

-- THE LOOKUP TABLES: the hash table, its kind and the offset of what describes it, and the symbols
pub record LookupTables : Type 0 where
  pub kind : HashStyle
  pub head : ℕ
  pub table : HashTable
  pub symbols : DynamicSymbols

-- BY THE SECTION HEADERS. The hash table: the first GNU_HASH section, otherwise the first HASH
-- section
unfoldable pub hash_section : List ℕ → Option (HashStyle × ℕ)
hash_section file = elim (first_of_type file SHT_GNU_HASH) [
  | Some i ↦ Some (GnuTable, section_at file i)
  | None ↦ elim (first_of_type file SHT_HASH) [ Some i ↦ Some (SysvTable, section_at file i) | None ↦ None ]
]

-- the checks of a section, if there is one
abbrev pub checks_of_section : List ℕ → Option ℕ → (ℕ → List Check) → List Check
checks_of_section file section checks = elim section [ None ↦ [] | Some i ↦ checks (section_at file i) ]

-- the checks of the first section of a type
abbrev pub checks_of_type : List ℕ → ℕ → (ℕ → List Check) → List Check
checks_of_type file type checks = checks_of_section file (first_of_type file type) checks

-- the first section of a type has a byte
abbrev pub has_bytes : List ℕ → ℕ → Bool
has_bytes file type = elim (first_of_type file type) [ None ↦ false | Some i ↦ not (sh_size file (section_at file i) == 0) ]

-- the first versym section, if there are definitions or needs: without them its entries name
-- nothing, and a loader does not read them
unfoldable pub words_section : List ℕ → Option ℕ
words_section file = elim (has_bytes file SHT_GNU_VERDEF || has_bytes file SHT_GNU_VERNEED) [
  | true ↦ first_of_type file SHT_GNU_VERSYM
  | false ↦ None
]

-- the checks of the versym section, which must be that of the symbols of the hash table; then, only
-- if there is one, those of the definitions and of the needs
unfoldable pub version_checks : List ℕ → ℕ → List Check
version_checks file at =
    checks_of_section file (words_section file) (λ words_at.
    unless_empty (sh_size file words_at) (table_checks file words_at VERSYM_SIZE)
    ++ (refuse (not (sh_link file words_at == sh_link file at)) words_at BadLink ∷ [])
    ++ checks_of_type file SHT_GNU_VERDEF (all_checks version_table file)
    ++ checks_of_type file SHT_GNU_VERNEED (all_checks version_table file))

-- all checks before the table's counts
abbrev pub section_checks : List ℕ → HashStyle → ℕ → List Check
section_checks file kind at = hash_checks_from (least_size kind) file at ++ version_checks file at

-- the definitions, or the needs, of the first section of a type, before others
abbrev pub records_of_type : List ℕ → ℕ → VersionKind → List VersionRecordTable → List VersionRecordTable
records_of_type file type kind others = elim (first_of_type file type) [
  | None ↦ others
  | Some i ↦
      let at = section_at file i in
      record { kind = kind; head = at; place = sh_offset file at; size = sh_size file at; strings = strings_of file at } ∷ others
]

-- the versym table
unfoldable pub section_words : List ℕ → Option VersymTable
section_words file = elim (words_section file) [
  | None ↦ None
  | Some i ↦
      let at = section_at file i in
      Some (record { place = sh_offset file at; count = entry_count file at VERSYM_SIZE; head = at; index = i })
]

-- the version records, if there is a versym table
abbrev pub records_with : Option VersymTable → List VersionRecordTable → List VersionRecordTable
records_with None records = []
records_with (Some words) records = records

-- the lookup tables, once the checks pass
unfoldable pub section_lookup_tables : List ℕ → HashStyle → ℕ → LookupTables
section_lookup_tables file kind at = record {
  kind = kind;
  head = at;
  table = section_table_of file at;
  symbols = record {
    index = sh_link file at;
    place = sh_offset file (linked_at file at);
    strings = strings_of file (linked_at file at);
    strings_at = sh_offset file (linked_at file (linked_at file at));
    words = section_words file;
    records =
        records_with (section_words file)
        (records_of_type file SHT_GNU_VERDEF Definition (records_of_type file SHT_GNU_VERNEED File []));
  };
}

-- BY THE PROGRAM HEADERS. The first of dynamic entries
unfoldable pub dynamic_segment_index : List ℕ → Option ℕ
dynamic_segment_index file = first_that (λ i. p_type file (segment_at file i) == PT_DYNAMIC) 0 (e_phnum file)

-- the offset of the first entry with a tag, of those up to and with the first that is DT_NULL
unfoldable pub tagged_row : List ℕ → ℕ → ℕ → Option ℕ
tagged_row file at tag =
    let count = dynamic_count file (p_offset file at) (p_filesz file at / DYNAMIC_SIZE) in
    elim (first_that (λ i. d_tag file (dynamic_at (p_offset file at) i) == tag) 0 count) [
      | None ↦ None
      | Some i ↦ Some (dynamic_at (p_offset file at) i)
    ]

-- THE REST of the first LOAD segment that has the byte at the address of an entry: its bytes in the
-- file from that one on. The entry is refused if none has it, and the program header if its bytes
-- end past the end of the file
unfoldable pub rest_checks : List ℕ → ℕ → List Check
rest_checks file row = elim (mapped_at file (d_un file row) 1) [
  | None ↦ refuse true row Unmapped ∷ []
  | Some at ↦ refuse (is_outside (length file) (p_offset file at) (p_filesz file at)) at TableOutside ∷ []
]

abbrev pub rest_place : List ℕ → ℕ → ℕ
rest_place file row = mapped_place file (d_un file row) 1

unfoldable pub rest_size : List ℕ → ℕ → ℕ
rest_size file row = elim (mapped_at file (d_un file row) 1) [
  | None ↦ 0
  | Some at ↦ p_filesz file at - (d_un file row - p_vaddr file at)
]

-- the hash table: at the entry DT_GNU_HASH, otherwise at DT_HASH
unfoldable pub hash_row : List ℕ → ℕ → Option (HashStyle × ℕ)
hash_row file at = elim (tagged_row file at DT_GNU_HASH) [
  | Some row ↦ Some (GnuTable, row)
  | None ↦ elim (tagged_row file at DT_HASH) [ Some row ↦ Some (SysvTable, row) | None ↦ None ]
]

-- the entry of the versym table, if there is one of definitions or of needs
unfoldable pub words_row : List ℕ → ℕ → Option ℕ
words_row file at = elim (is_none (tagged_row file at DT_VERDEF) && is_none (tagged_row file at DT_VERNEED)) [
  | true ↦ None
  | false ↦ tagged_row file at DT_VERSYM
]

-- the checks of an entry, if there is one
abbrev pub checks_of_row : Option ℕ → (ℕ → List Check) → List Check
checks_of_row None checks = []
checks_of_row (Some row) checks = checks row

-- the checks of what the entries say of the symbols: their offset, their strings, and the versym
-- table and version records, which are read only if there is such a table
unfoldable pub rows_checks : List ℕ → (at hash_row : ℕ) → List Check
rows_checks file at hash_row =
    let symtab = tagged_row file at DT_SYMTAB in
    let strtab = tagged_row file at DT_STRTAB in
    let strsz = tagged_row file at DT_STRSZ in
    refuse (is_none symtab || is_none strtab || is_none strsz) hash_row Unmapped
    ∷ checks_of_row symtab (rest_checks file)
    ++ checks_of_row strtab (λ row. checks_of_row strsz (λ size_row. mapped_checks file (d_un file row) (d_un file size_row) row))
    ++ checks_of_row (words_row file at) (λ row.
    rest_checks file row
    ++ checks_of_row (tagged_row file at DT_VERDEF) (rest_checks file)
    ++ checks_of_row (tagged_row file at DT_VERNEED) (rest_checks file))

-- a hash table of a kind has words of 8 bytes: Alpha's gABI hash tables have, and no entry gives
-- another size
abbrev pub has_wide_kind : List ℕ → HashStyle → Bool
has_wide_kind file GnuTable = false
has_wide_kind file SysvTable = e_machine file == EM_ALPHA

-- all checks before the table's counts
unfoldable pub segment_checks : List ℕ → HashStyle → (at hash_row : ℕ) → List Check
segment_checks file kind at hash_row =
    rest_checks file hash_row
    ++ (refuse (nat_lt (rest_size file hash_row) (least_size kind) || has_wide_kind file kind) hash_row HashShape ∷ [])
    ++ rows_checks file at hash_row

-- the strings of the symbols
unfoldable pub segment_strings : List ℕ → ℕ → List ℕ
segment_strings file at = elim (tagged_row file at DT_STRTAB) [
  | None ↦ []
  | Some row ↦ elim (tagged_row file at DT_STRSZ) [
    | None ↦ []
    | Some size_row ↦ mapped_bytes file (d_un file row) (d_un file size_row)
  ]
]

-- the offset at which they begin
unfoldable pub segment_strings_at : List ℕ → ℕ → ℕ
segment_strings_at file at = elim (tagged_row file at DT_STRTAB) [
  | None ↦ 0
  | Some row ↦ elim (tagged_row file at DT_STRSZ) [
    | None ↦ 0
    | Some size_row ↦ mapped_place file (d_un file row) (d_un file size_row)
  ]
]

-- the versym table, which the program header of an index describes
unfoldable pub segment_words : List ℕ → (index at : ℕ) → Option VersymTable
segment_words file index at = elim (words_row file at) [
  | None ↦ None
  | Some row ↦ Some (record { place = rest_place file row; count = rest_size file row / VERSYM_SIZE; head = row; index = index })
]

-- the definitions, or the needs, at the entry of a tag, before others
abbrev pub records_of_tag : List ℕ → (at tag : ℕ) → VersionKind → List VersionRecordTable → List VersionRecordTable
records_of_tag file at tag kind others = elim (tagged_row file at tag) [
  | None ↦ others
  | Some row ↦
      record { kind = kind; head = row; place = rest_place file row; size = rest_size file row; strings = segment_strings file at }
      ∷ others
]

-- the offset of the symbols, and how many there are
unfoldable pub segment_symbols : List ℕ → ℕ → ℕ × ℕ
segment_symbols file at = elim (tagged_row file at DT_SYMTAB) [
  | None ↦ (0, 0)
  | Some row ↦ (rest_place file row, rest_size file row / SYMBOL_SIZE)
]

-- the lookup tables, once the checks pass
unfoldable pub segment_lookup_tables : List ℕ → HashStyle → (index at hash_row : ℕ) → LookupTables
segment_lookup_tables file kind index at hash_row =
    let symbols = segment_symbols file at in
    record {
      kind = kind;
      head = hash_row;
      table = record { place = rest_place file hash_row; size = rest_size file hash_row; symbols = symbols.1 };
      symbols = record {
        index = index;
        place = symbols.0;
        strings = segment_strings file at;
        strings_at = segment_strings_at file at;
        words = segment_words file index at;
        records =
            records_with (segment_words file index at)
            (records_of_tag file at DT_VERDEF Definition (records_of_tag file at DT_VERNEED File []));
      };
    }

-- THE LOOKUP TABLES, or the first refusal: by the section headers, or if a file has none by the
-- program headers
unfoldable pub scope_by_sections : List ℕ → Result LookupTables Refusal
scope_by_sections file = elim (hash_section file) [
  | None ↦ Err (record { at = 0x28; cause = NoHash })
  | Some found ↦ elim (first_refusal (section_checks file found.0 found.1)) [
    | Some refusal ↦ Err refusal
    | None ↦ Ok (section_lookup_tables file found.0 found.1)
  ]
]

unfoldable pub scope_in_segment : List ℕ → (index at : ℕ) → Result LookupTables Refusal
scope_in_segment file index at = elim (first_refusal (segment_dynamic_checks file at)) [
  | Some refusal ↦ Err refusal
  | None ↦ elim (hash_row file at) [
    | None ↦ Err (record { at = 0x20; cause = NoHash })
    | Some found ↦ elim (first_refusal (segment_checks file found.0 at found.1)) [
      | Some refusal ↦ Err refusal
      | None ↦ Ok (segment_lookup_tables file found.0 index at found.1)
    ]
  ]
]

unfoldable pub scope_in_segments : List ℕ → Result LookupTables Refusal
scope_in_segments file = elim (dynamic_segment_index file) [
  | None ↦ Err (record { at = 0x20; cause = NoHash })
  | Some index ↦ scope_in_segment file index (segment_at file index)
]

-- after the check that no LOAD segment overlaps another, since an address is searched for in the
-- first that has it
unfoldable pub lookup_tables_by_segments : List ℕ → Result LookupTables Refusal
lookup_tables_by_segments file = elim (first_refusal (overlap_checks file)) [
  | Some refusal ↦ Err refusal
  | None ↦ scope_in_segments file
]

unfoldable pub lookup_tables_of : List ℕ → ℕ → Result LookupTables Refusal
lookup_tables_of file headers = elim (first_refusal (header_checks file ++ load_checks file headers)) [
  | Some refusal ↦ Err refusal
  | None ↦ elim (e_shnum file == 0) [ true ↦ lookup_tables_by_segments file | false ↦ scope_by_sections file ]
]
