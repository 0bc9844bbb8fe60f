-- Which file defines a symbol that a file references, as a GNU loader binds it: files are searched
-- in order, and the first that defines the name is used (gABI 5, Shared Object Dependencies and
-- Hash Table; Linux Standard Base Core, Symbol Versioning). The files are those that a lookup sees:
-- by their program headers, if no section headers are known.
use Rattle.std.specs.Prelude.{ℕ, suc, ◌+◌, ◌*◌, ◌==◌, ◌&&◌, nat_lt, not, min, if◌then◌else◌, Bool, true, false, List, [], ◌∷◌, length, Option, None, Some, Result, Ok, Err}
use Rattle.elf_model.specs.Chains.{ChainResult}
use Rattle.elf_model.specs.Checks.{first_refusal}
use Rattle.elf_model.specs.GnuHash.{gnu_hash, gnu_looked_up}
use Rattle.elf_model.specs.Hash.{sysv_hash}
use Rattle.elf_model.specs.Loader.{VersionQuery, NoVersion, Version, SymbolQuery, VersionRecordTable, DynamicSymbols, answers, is_among, naming_of, readings, symbol_offset, versym_at}
use Rattle.elf_model.specs.LoaderFind.{counts_check, record_cost, version_indices}
use Rattle.elf_model.specs.LoaderScope.{GnuTable, SysvTable, LookupTables, lookup_tables_of}
use Rattle.elf_model.specs.Names.{pad64, shown}
use Rattle.elf_model.specs.Names.DisplayedName.{Whole, Cut}
use Rattle.elf_model.specs.Numbers.{SHN_UNDEF, STB_GLOBAL, STB_WEAK, STB_GNU_UNIQUE}
use Rattle.elf_model.specs.Records.{st_name, st_shndx, st_bind, versym}
use Rattle.elf_model.specs.SysvWalk.{sysv_walked}
use Rattle.elf_model.specs.Tables.{SYMBOL_SIZE}
use Rattle.elf_model.specs.Traits.{hashed_symbol_count}
use Rattle.elf_model.specs.Versions.{VERSYM_SIZE, name_index, named_at, number_in}
use Rattle.elf_model.specs.declared.causes.Cause.TheVariants.{TooLong, VersionCut, VersionIndex}
use Rattle.elf_model.specs.declared.causes.Refusal.{Refusal}

-- A SYMBOL DEFINES what is wanted: it answers a lookup, and it is not undefined. An undefined one
-- that has a value answers too: it is for the address of a function, and calls of that go to
-- another file
unfoldable pub defines : List ℕ → DynamicSymbols → SymbolQuery → (ℕ → Bool) → ℕ → Result Bool Refusal
defines file symbols wanted is_wanted y = elim (answers file symbols wanted is_wanted y) [
  | Err refusal ↦ Err refusal
  | Ok false ↦ Ok false
  | Ok true ↦ Ok (not (st_shndx file (symbol_offset symbols y) == SHN_UNDEF))
]

-- the walk for the symbol that defines it, if the indices of the version by its name are known
unfoldable pub definer_walk : List ℕ → LookupTables → SymbolQuery → (ℕ → Bool) → ChainResult
definer_walk file scope wanted is_wanted = elim scope.kind [
  | GnuTable ↦ gnu_looked_up file scope.table (gnu_hash wanted.name) (defines file scope.symbols wanted is_wanted)
  | SysvTable ↦ sysv_walked file scope.table (sysv_hash wanted.name) (defines file scope.symbols wanted is_wanted)
]

-- THE RESULT OF SEARCHING ONE FILE FOR A DEFINITION: the index of the symbol, or none, or the
-- refusal; how many symbols are tried, and how many chain words and version records are read
pub record DefinerLookup : Type 0 where
  pub answer : Result (Option ℕ) Refusal
  pub tried : ℕ
  pub chain_words : ℕ
  pub records : ℕ

-- a refusal before the walk, once this many records are read
abbrev pub unwalked : (records : ℕ) → Refusal → DefinerLookup
unwalked records refusal = record { answer = Err refusal; tried = 0; chain_words = 0; records = records }

-- by the walk, before which this many records are read
abbrev pub definer_by : (records : ℕ) → ChainResult → DefinerLookup
definer_by records walked = record { answer = walked.answer; tried = walked.tried; chain_words = walked.read; records = records }

-- once the checks of the lookup tables pass: the table's counts, the indices of the version, the
-- walk. The name of the symbol's version is not read, as its line does not have it
unfoldable pub definition_in : List ℕ → LookupTables → SymbolQuery → DefinerLookup
definition_in file scope wanted = elim (first_refusal (counts_check file scope ∷ [])) [
  | Some refusal ↦ unwalked 0 refusal
  | None ↦
      let compared = version_indices file scope wanted.asked in
      elim compared.refused [
        | Some refusal ↦ unwalked compared.read refusal
        | None ↦ definer_by compared.read (definer_walk file scope wanted (λ number. is_among number compared.numbers))
      ]
]

-- in a file, with this many headers allowed
unfoldable pub definition_lookup : List ℕ → ℕ → SymbolQuery → DefinerLookup
definition_lookup file headers wanted = elim (lookup_tables_of file headers) [
  | Err refusal ↦ unwalked 0 refusal
  | Ok scope ↦ definition_in file scope wanted
]

-- HOW MANY BYTES IT MAY READ once the lookup tables are known: four counts, a word of a filter and
-- one of a bucket; the chain words; a symbol, its versym entry and its name for each that is tried;
-- the version records
unfoldable pub definition_cost : SymbolQuery → DefinerLookup → ℕ
definition_cost wanted looked =
    4 * looked.chain_words
    + looked.tried * (SYMBOL_SIZE + VERSYM_SIZE + pad64 (length wanted.name + 1))
    + looked.records * record_cost wanted.asked

-- THE RESULT OF SEARCHING FILES: the index of the first file that defines the name, with that of
-- the symbol there; or that of the first in which the lookup is refused, with its refusal; or that
-- none defines it
pub data Binding : Type 0 where
  BoundTo : (file symbol : ℕ) → Binding
  StoppedIn : (file : ℕ) → Refusal → Binding
  BoundToNone : Binding

-- by the lookup in one file, or otherwise the result in the others
abbrev pub bound_or : ℕ → Result (Option ℕ) Refusal → Binding → Binding
bound_or index (Ok (Some symbol)) others = BoundTo index symbol
bound_or index (Ok None) others = others
bound_or index (Err refusal) others = StoppedIn index refusal

-- in the files from an index, with this many headers allowed in each
unfoldable pub bound_from : ℕ → (headers : ℕ) → SymbolQuery → List (List ℕ) → Binding
bound_from index headers wanted [] = BoundToNone
bound_from index headers wanted (file ∷ files) =
    bound_or index (definition_lookup file headers wanted).answer (bound_from (suc index) headers wanted files)

-- in all of them
abbrev pub bound_in : (headers : ℕ) → SymbolQuery → List (List ℕ) → Binding
bound_in headers wanted files = bound_from 0 headers wanted files

-- A SYMBOL IS A REFERENCE. It is undefined, global, weak or unique, and has a name (gABI 4, Symbol
-- Table: an index of 0 is none), of one byte or more
unfoldable pub is_reference : List ℕ → ℕ → Bool
is_reference file at =
    (st_shndx file at == SHN_UNDEF)
    && is_among (st_bind file at) (STB_GLOBAL ∷ STB_WEAK ∷ STB_GNU_UNIQUE ∷ [])
    && not (st_name file at == 0)

-- it need not be defined by any file: then its value is 0 (gABI 4, Symbol Table, STB_WEAK)
abbrev pub is_weak : List ℕ → ℕ → Bool
is_weak file at = st_bind file at == STB_WEAK

-- the maximum number of bytes of a requested name of a symbol or a version: a longer one is refused
abbrev pub SOUGHT_BYTES : ℕ
SOUGHT_BYTES = 4096

-- a whole name in strings, or the refusal at the record that has its index
unfoldable pub whole_name : (strings : List ℕ) → (index at : ℕ) → Result (List ℕ) Refusal
whole_name strings index at = elim (shown strings index SOUGHT_BYTES) [
  | Ok (Whole name) ↦ Ok name
  | Ok (Cut front) ↦ Err (record { at = at; cause = TooLong })
  | Err cause ↦ Err (record { at = at; cause = cause })
]

-- the version of an index: the name of the first record that has it; a fault of the name is at the
-- record that has the name's index, and if no record has the version index at the versym entry
unfoldable pub reference_by_index : List ℕ → List VersionRecordTable → (number word_at : ℕ) → Result VersionQuery Refusal
reference_by_index file records number word_at =
    let naming = naming_of file number (readings file records) in
    elim naming.found [
      | Some found ↦ elim (whole_name found.0 (name_index file found.1) (named_at file found.1)) [
        | Ok name ↦ Ok (Version name)
        | Err refusal ↦ Err refusal
      ]
      | None ↦ elim naming.refused [
        | Some refusal ↦ Err refusal
        | None ↦ Err (record { at = word_at; cause = VersionIndex })
      ]
    ]

-- the version that a symbol requests: none if there are no versym entries, and for the indices 0
-- and 1
unfoldable pub reference_version : List ℕ → DynamicSymbols → ℕ → Result VersionQuery Refusal
reference_version file symbols y = elim symbols.words [
  | None ↦ Ok NoVersion
  | Some words ↦
      if not (nat_lt y words.count) then Err (record { at = words.head; cause = VersionCut })
      else
      (let number = number_in (versym file (versym_at words y)) in
      if nat_lt number 2 then Ok NoVersion
      else reference_by_index file symbols.records number (versym_at words y))
]

-- nothing, also if the name is empty; or its name and the version; a fault of the name is at the
-- symbol
unfoldable pub reference_at : List ℕ → DynamicSymbols → ℕ → Result (Option SymbolQuery) Refusal
reference_at file symbols y =
    let at = symbol_offset symbols y in
    if not (is_reference file at) then Ok None
    else elim (whole_name symbols.strings (st_name file at) at) [
      | Err refusal ↦ Err refusal
      | Ok name ↦ if length name == 0 then Ok None else elim (reference_version file symbols y) [
        | Err refusal ↦ Err refusal
        | Ok asked ↦ Ok (Some (record { name = name; asked = asked }))
      ]
    ]

-- HOW MANY SYMBOLS a file has, by its hash table, at most as many as fit; or the refusal of the
-- table's counts
unfoldable pub symbols_hashed : List ℕ → LookupTables → Result ℕ Refusal
symbols_hashed file scope = elim (first_refusal (counts_check file scope ∷ [])) [
  | Some refusal ↦ Err refusal
  | None ↦ Ok (min (hashed_symbol_count file scope) scope.table.symbols)
]
