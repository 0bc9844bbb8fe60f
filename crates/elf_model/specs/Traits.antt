-- HOW A FILE IS HARDENED, by its program headers and dynamic entries, as a loader sees it: each
-- trait with the standard or the convention that defines it. The definitions are over a file that
-- has no section headers, except for the stack of a relocatable file.
use Rattle.std.specs.Prelude.{ℕ, zero, suc, ◌-◌, ◌/◌, ◌==◌, ◌&&◌, ◌||◌, nat_eq, nat_lt, not, is_some, min, max, if◌then◌else◌, Bool, true, false, List, [], ◌∷◌, ◌++◌, length, codes, Option, None, Some, unwrap_or, Result, Ok, Err}
use Rattle.std.specs.List.{starts_with, ends_with}
use Rattle.elf_model.specs.Bytes.{field}
use Rattle.elf_model.specs.Chains.{HashTable}
use Rattle.elf_model.specs.Checks.{first_refusal, has_section_names, header_checks, load_checks}
use Rattle.elf_model.specs.Dynamic.{listed_value}
use Rattle.elf_model.specs.Find.{first_that}
use Rattle.elf_model.specs.GnuHash.{chain_word, is_chain_end, gnu_bucket_at, gnu_first, gnu_nbucket, is_chained}
use Rattle.elf_model.specs.Hash.{sysv_nchain}
use Rattle.elf_model.specs.Loader.{DynamicSymbols, symbol_offset}
use Rattle.elf_model.specs.LoaderFind.{counts_check}
use Rattle.elf_model.specs.LoaderScope.{GnuTable, SysvTable, LookupTables, dynamic_segment_index, lookup_tables_by_segments}
use Rattle.elf_model.specs.Names.{DisplayedName, same, shown}
use Rattle.elf_model.specs.Names.DisplayedName.{Whole, Cut}
use Rattle.elf_model.specs.Numbers.{EM_X86_64, ET_REL, PT_LOAD, SHN_UNDEF, DT_SONAME, DT_RPATH, DT_RUNPATH}
use Rattle.elf_model.specs.Properties.{GNU_PROPERTY_X86_FEATURE_1_IBT, GNU_PROPERTY_X86_FEATURE_1_SHSTK, features_in, property_list}
use Rattle.elf_model.specs.Records.{e_type, e_machine, e_phnum, e_shnum, e_shstrndx, p_type, p_flags, p_offset, p_filesz, section_at, segment_at, sh_flags, sh_name, st_name, st_shndx}
use Rattle.elf_model.specs.Style.{without_sections}
use Rattle.elf_model.specs.Tables.{DYNAMIC_SIZE, SYMBOL_SIZE, section_bytes}
use Rattle.elf_model.specs.TraitNumbers.{EM_386, SHF_EXECINSTR, ET_EXEC, ET_DYN, ET_CORE, PT_INTERP, PT_GNU_STACK, PT_GNU_RELRO, PF_X, PF_W, DT_TEXTREL, DT_BIND_NOW, DT_FLAGS, DT_FLAGS_1, DF_TEXTREL, DF_BIND_NOW, DF_1_NOW, DF_1_PIE, has_bits}
use Rattle.elf_model.specs.declared.causes.Cause.{Cause}
use Rattle.elf_model.specs.declared.causes.Cause.TheVariants.{NoHash}
use Rattle.elf_model.specs.declared.causes.Refusal.{Refusal}
use Rattle.elf_model.specs.declared.traits.ProgramKind.{ProgramKind}
use Rattle.elf_model.specs.declared.traits.ProgramKind.TheVariants as kind
use Rattle.elf_model.specs.declared.traits.Relro.{Relro}
use Rattle.elf_model.specs.declared.traits.Relro.TheVariants as relro
use Rattle.elf_model.specs.declared.traits.SearchPath.{SearchPath}
use Rattle.elf_model.specs.declared.traits.SearchPath.TheVariants as path
use Rattle.elf_model.specs.declared.traits.SegmentTraits.{SegmentTraits}
use Rattle.elf_model.specs.declared.traits.Hardening.{Hardening}

-- SEGMENTS. The program header of an index is of a type
abbrev is_segment : List ℕ → (type index : ℕ) → Bool
is_segment file type i = p_type file (segment_at file i) == type

-- the first program header of a type
abbrev pub segment_of : List ℕ → ℕ → Option ℕ
segment_of file type = first_that (is_segment file type) 0 (e_phnum file)

-- a segment has all of some permissions
abbrev pub permits : List ℕ → (bits index : ℕ) → Bool
permits file bits i = has_bits (p_flags file (segment_at file i)) bits

-- STACK: a loader makes the stack executable if the first segment of its permissions is executable,
-- and if there is none, as in files older than that segment (Linux Standard Base Core, Program
-- Header)
unfoldable pub is_stack_executable : List ℕ → Bool
is_stack_executable file = elim (segment_of file PT_GNU_STACK) [ None ↦ true | Some i ↦ permits file PF_X i ]

-- by the segments, if the file has any; those of a core are of its memory, and do not say what its
-- program's stack was to be
unfoldable pub stack_by_segments : List ℕ → Option Bool
stack_by_segments file = elim (e_phnum file == 0 || e_type file == ET_CORE) [
  | true ↦ None
  | false ↦ Some (is_stack_executable file)
]

-- PAGES: a LOAD segment is writable and executable (gABI 5, Segment Permissions)
abbrev pub is_writable_code : List ℕ → ℕ → Bool
is_writable_code file i = is_segment file PT_LOAD i && (permits file PF_W i && permits file PF_X i)

unfoldable pub has_wx_load : List ℕ → Bool
has_wx_load file = is_some (first_that (is_writable_code file) 0 (e_phnum file))

-- DYNAMIC ENTRIES. The value of the first with a tag, in the first segment of such, up to and with
-- the first that is DT_NULL
unfoldable pub dynamic_entry_value : List ℕ → ℕ → Option ℕ
dynamic_entry_value file tag = elim (dynamic_segment_index file) [
  | None ↦ None
  | Some i ↦ listed_value file (p_offset file (segment_at file i)) (p_filesz file (segment_at file i) / DYNAMIC_SIZE) tag
]

abbrev has_dynamic_entry : List ℕ → ℕ → Bool
has_dynamic_entry file tag = is_some (dynamic_entry_value file tag)

-- the entry with a tag has all of some flags; one that is not there has none
abbrev entry_has : List ℕ → (tag bits : ℕ) → Bool
entry_has file tag bits = has_bits (unwrap_or (dynamic_entry_value file tag) 0) bits

-- all symbols are bound before the program starts (gABI 5, DT_BIND_NOW and DF_BIND_NOW; the GNU
-- DF_1_NOW)
unfoldable pub binds_now : List ℕ → Bool
binds_now file = has_dynamic_entry file DT_BIND_NOW || (entry_has file DT_FLAGS DF_BIND_NOW || entry_has file DT_FLAGS_1 DF_1_NOW)

-- RELRO: a GNU segment is made read-only after relocation; what is bound later stays writable
unfoldable pub relro_of : List ℕ → Relro
relro_of file = elim (is_some (segment_of file PT_GNU_RELRO)) [
  | false ↦ relro.Absent
  | true ↦ elim (binds_now file) [ true ↦ relro.Full | false ↦ relro.Partial ]
]

-- TEXT: relocations change a segment that is not writable (gABI 5, DT_TEXTREL and DF_TEXTREL)
unfoldable pub has_text_relocations : List ℕ → Bool
has_text_relocations file = has_dynamic_entry file DT_TEXTREL || entry_has file DT_FLAGS DF_TEXTREL

-- PATH: where libraries are searched for first. A loader ignores DT_RPATH if there is DT_RUNPATH
-- (gABI 5, Shared Object Dependencies)
unfoldable pub path_of : List ℕ → SearchPath
path_of file = elim (has_dynamic_entry file DT_RUNPATH) [
  | true ↦ path.Runpath
  | false ↦ elim (has_dynamic_entry file DT_RPATH) [ true ↦ path.Rpath | false ↦ path.Absent ]
]

-- KIND. A file that may be loaded at any address is a library if it has a name as one; otherwise a
-- program if it requests an interpreter, or if it says so (the GNU DF_1_PIE), and then requests
-- none
unfoldable pub kind_of_shared : List ℕ → ProgramKind
kind_of_shared file = elim (has_dynamic_entry file DT_SONAME) [
  | true ↦ kind.Lib
  | false ↦ elim (is_some (segment_of file PT_INTERP)) [
    | true ↦ kind.Pie
    | false ↦ elim (entry_has file DT_FLAGS_1 DF_1_PIE) [ true ↦ kind.Static | false ↦ kind.Lib ]
  ]
]

-- by the type of the file (gABI 4, ELF Header)
unfoldable pub program_kind : List ℕ → ProgramKind
program_kind file =
    if e_type file == ET_DYN then kind_of_shared file
    else if e_type file == ET_EXEC then (if is_some (segment_of file PT_INTERP) then kind.Exec else kind.Static)
    else if e_type file == ET_REL then kind.Object
    else if e_type file == ET_CORE then kind.Core
    else kind.Other

-- the traits of program headers, if the file has any
unfoldable pub segment_traits : List ℕ → Option SegmentTraits
segment_traits file = elim (e_phnum file == 0) [
  | true ↦ None
  | false ↦
      Some (record {
        relro = relro_of file;
        pages_writable = has_wx_load file;
        text_patched = has_text_relocations file;
      })
]

-- CONTROL FLOW: the word of x86 features in the first list of properties; other machines have other
-- words under its number
unfoldable pub x86_feature_word : List ℕ → Result ℕ Refusal
x86_feature_word file = elim (e_machine file == EM_X86_64) [
  | false ↦ Ok 0
  | true ↦ elim (property_list file) [ Err refusal ↦ Err refusal | Ok None ↦ Ok 0 | Ok (Some list) ↦ features_in list ]
]

-- SYMBOLS. The dynamic symbols are those that a loader's lookup knows; a file without dynamic
-- entries has none, and its LOAD segments may overlap, nor has one without a hash table
abbrev pub has_none : Cause → Bool
has_none NoHash = true
has_none _ = false

unfoldable pub known_symbols : List ℕ → Result (Option LookupTables) Refusal
known_symbols file = elim (dynamic_segment_index file) [
  | None ↦ Ok None
  | Some index ↦ elim (lookup_tables_by_segments file) [
    | Ok scope ↦ elim (first_refusal (counts_check file scope ∷ [])) [ Some refusal ↦ Err refusal | None ↦ Ok (Some scope) ]
    | Err refusal ↦ elim (has_none refusal.cause) [ true ↦ Ok None | false ↦ Err refusal ]
  ]
]

-- HOW MANY there are is counted only by the hash table. In a GNU hash table: the symbols before
-- `first`, and those of chains, of which the last begins at the largest of the buckets' words
unfoldable pub max_bucket : List ℕ → (place count : ℕ) → ℕ
max_bucket file place zero = 0
max_bucket file place (suc n) = max (max_bucket file place n) (field file (gnu_bucket_at file place n) 4)

-- a chain ends at a symbol: the last of it, or one that is not there
abbrev pub is_last_in : List ℕ → HashTable → ℕ → Bool
is_last_in file table y = not (is_chained file table y) || is_chain_end (chain_word file table.place y)

-- how many symbols fit before their strings; none if the hash table is between, or if there is no
-- room for this many after the first
unfoldable pub before_strings : HashTable → (symbols strings : ℕ) → ℕ
before_strings table symbols strings =
    let rows = (strings - symbols) / SYMBOL_SIZE in
    if (nat_lt symbols table.place && nat_lt table.place strings) || nat_lt table.symbols rows then 0 else rows

-- A table in which no symbol is found, and whose `first` is 1, does not say how many there are: the
-- usual linker writes it so, for any number of undefined symbols. Then there are those before their
-- strings
unfoldable pub unfound : (first before room : ℕ) → ℕ
unfound first before room = if first == 1 then max before (min first room) else min first room

-- how many there are, with this many before their strings
unfoldable pub gnu_symbols : List ℕ → HashTable → ℕ → ℕ
gnu_symbols file table before =
    let start = max_bucket file table.place (gnu_nbucket file table.place) in
    if nat_lt start (gnu_first file table.place) then unfound (gnu_first file table.place) before table.symbols
    else elim (first_that (is_last_in file table) start (table.symbols - start)) [
      | None ↦ table.symbols
      | Some y ↦ suc y
    ]

-- in a gABI hash table as many as there are chains (gABI 5, Hash Table); no more than there is room
-- for
unfoldable pub hashed_symbol_count : List ℕ → LookupTables → ℕ
hashed_symbol_count file scope = elim scope.kind [
  | GnuTable ↦ gnu_symbols file scope.table (before_strings scope.table scope.symbols.place scope.symbols.strings_at)
  | SysvTable ↦ min (sysv_nchain file scope.table.place) scope.table.symbols
]

-- CANARY: the functions that stack protectors call, and the word that they compare with (Linux
-- Standard Base Core, libc)
abbrev pub guards : List (List ℕ)
guards = codes "__stack_chk_fail" ∷ codes "__stack_chk_guard" ∷ []

unfoldable pub is_any_of : List (List ℕ) → List ℕ → Bool
is_any_of [] name = false
is_any_of (other ∷ others) name = (length name == length other && starts_with nat_eq name other) || is_any_of others name

abbrev pub is_stack_protector : List ℕ → Bool
is_stack_protector name = is_any_of guards name

-- FORTIFY: the functions of the C library that check the size of what they write, as glibc names
-- them
unfoldable pub is_fortify_call : List ℕ → Bool
is_fortify_call name = starts_with nat_eq name (codes "__") && (ends_with nat_eq name (codes "_chk") && not (is_stack_protector name))

-- how many bytes of a symbol's name are read: a longer one is none of those
abbrev pub TRAIT_NAME_BYTES : ℕ
TRAIT_NAME_BYTES = 63

-- what symbols show: that one is of a stack protector, that an undefined one is a fortify call
pub record SymbolTraitFlags : Type 0 where
  pub canary : Bool
  pub fortify : Bool

abbrev pub no_symbol_traits : SymbolTraitFlags
no_symbol_traits = record { canary = false; fortify = false }

abbrev pub marked_by : SymbolTraitFlags → List ℕ → Bool → SymbolTraitFlags
marked_by marks name undefined = record {
  canary = marks.canary || is_stack_protector name;
  fortify = marks.fortify || (undefined && is_fortify_call name);
}

-- with one more symbol, which is at an offset, by what is shown of its name
abbrev pub marked_with_symbol : List ℕ → ℕ → SymbolTraitFlags → DisplayedName → SymbolTraitFlags
marked_with_symbol file at marks (Whole name) = marked_by marks name (st_shndx file at == SHN_UNDEF)
marked_with_symbol file at marks (Cut front) = marks

-- what this many symbols from an index show, besides those before; a fault of a name is at the
-- symbol
unfoldable pub marks_from : List ℕ → DynamicSymbols → SymbolTraitFlags → (index count : ℕ) → Result SymbolTraitFlags Refusal
marks_from file symbols marks index zero = Ok marks
marks_from file symbols marks index (suc count) =
    let at = symbol_offset symbols index in
    elim (shown symbols.strings (st_name file at) TRAIT_NAME_BYTES) [
      | Err cause ↦ Err (record { at = at; cause = cause })
      | Ok name ↦ marks_from file symbols (marked_with_symbol file at marks name) (suc index) count
    ]

-- what the symbols of a file show, all except the first, which is none (gABI 4, Symbol Table)
unfoldable pub find_symbol_traits : List ℕ → Option LookupTables → Result SymbolTraitFlags Refusal
find_symbol_traits file None = Ok no_symbol_traits
find_symbol_traits file (Some scope) = marks_from file scope.symbols no_symbol_traits 1 (hashed_symbol_count file scope - 1)

-- the traits, by the word of the features and what the symbols show
unfoldable pub traits_with : List ℕ → ℕ → SymbolTraitFlags → Hardening
traits_with file word marks = record {
  kind = program_kind file;
  segments = segment_traits file;
  stack = stack_by_segments file;
  ibt = has_bits word GNU_PROPERTY_X86_FEATURE_1_IBT;
  shstk = has_bits word GNU_PROPERTY_X86_FEATURE_1_SHSTK;
  canary = marks.canary;
  fortify = marks.fortify;
  path = path_of file;
}

-- the traits of a file that has no section headers, once its headers are loaded, or the first
-- refusal: if it has dynamic entries, of overlapping LOAD segments, the entries and the lookup
-- tables; of the properties; of the symbols' names
unfoldable pub loaded_traits : List ℕ → Result Hardening Refusal
loaded_traits file = elim (known_symbols file) [
  | Err refusal ↦ Err refusal
  | Ok scope ↦ elim (x86_feature_word file) [
    | Err refusal ↦ Err refusal
    | Ok word ↦ elim (find_symbol_traits file scope) [
      | Err refusal ↦ Err refusal
      | Ok marks ↦ Ok (traits_with file word marks)
    ]
  ]
]

unfoldable pub traits_by_segments : List ℕ → ℕ → Result Hardening Refusal
traits_by_segments file headers = elim (first_refusal (header_checks file ++ load_checks file headers)) [
  | Some refusal ↦ Err refusal
  | None ↦ loaded_traits file
]

-- THE STACK OF A RELOCATABLE FILE: a section with this name says what its code needs (GNU assembler)
abbrev pub STACK_SECTION : List ℕ
STACK_SECTION = codes ".note.GNU-stack"

-- a name is there, and is the one that is looked for; one with a fault is not
abbrev pub is_that_name : Result Bool Cause → Bool
is_that_name (Ok same) = same
is_that_name (Err cause) = false

-- the section of an index has that name
abbrev pub is_stack_section : List ℕ → ℕ → Bool
is_stack_section file index =
    is_that_name (same (section_bytes file (section_at file (e_shstrndx file))) (sh_name file (section_at file index)) STACK_SECTION)

-- the first such section, if sections have names
unfoldable pub stack_section : List ℕ → Option ℕ
stack_section file = elim (has_section_names file) [
  | true ↦ first_that (is_stack_section file) 0 (e_shnum file)
  | false ↦ None
]

-- without such a section a linker makes the stack executable on some machines (GNU ld)
abbrev pub linked_stack : (machine : ℕ) → Option Bool
linked_stack machine = if machine == EM_X86_64 || machine == EM_386 then Some true else None

-- by the sections, once their headers are loaded: whether the section of that name is executable
unfoldable pub loaded_stack : List ℕ → Option Bool
loaded_stack file = elim (stack_section file) [
  | None ↦ linked_stack (e_machine file)
  | Some index ↦ Some (has_bits (sh_flags file (section_at file index)) SHF_EXECINSTR)
]

-- it is not known if the section headers do not pass their checks
unfoldable pub stack_by_sections : List ℕ → ℕ → Option Bool
stack_by_sections file headers = elim (first_refusal (header_checks file ++ load_checks file headers)) [
  | Some refusal ↦ None
  | None ↦ loaded_stack file
]

-- traits with another stack
abbrev pub with_stack : Option Bool → Hardening → Hardening
with_stack stack t = record {
  kind = t.kind;
  segments = t.segments;
  stack = stack;
  ibt = t.ibt;
  shstk = t.shstk;
  canary = t.canary;
  fortify = t.fortify;
  path = t.path;
}

unfoldable pub is_relocatable : ProgramKind → Bool
is_relocatable kind.Object = true
is_relocatable _ = false

-- the traits by the segments, and of a relocatable file the stack by its sections
unfoldable pub traits_with_stack : List ℕ → ℕ → Result Hardening Refusal → Result Hardening Refusal
traits_with_stack file headers (Err refusal) = Err refusal
traits_with_stack file headers (Ok t) = Ok (if is_relocatable t.kind then with_stack (stack_by_sections file headers) t else t)

-- THE TRAITS OF A FILE, with this many headers allowed: for any section headers, except for the
-- stack of a relocatable file
unfoldable pub traits_of : List ℕ → ℕ → Result Hardening Refusal
traits_of file headers = traits_with_stack file headers (traits_by_segments (without_sections file) headers)
