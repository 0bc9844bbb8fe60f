-- The lookup of a name, with or without a version, as a GNU loader does it in one file: its result,
-- and how many bytes it may read.
use Rattle.std.specs.Prelude.{ℕ, ◌+◌, ◌*◌, ◌/◌, ◌==◌, ◌||◌, nat_lt, not, count_ones, Bool, true, false, List, [], ◌∷◌, length, Option, None, Some, Ok, Err}
use Rattle.elf_model.specs.Chains.{ChainResult}
use Rattle.elf_model.specs.Checks.{Check, refuse, first_refusal, before_headers, pass}
use Rattle.elf_model.specs.Cost.{cost_where}
use Rattle.elf_model.specs.GnuHash.{gnu_hash, gnu_nbucket, gnu_nbloom, gnu_shift, before_chains, gnu_looked_up}
use Rattle.elf_model.specs.Hash.{sysv_hash, sysv_nbucket, sysv_nchain, Found, Absent, Refused, Lookup}
use Rattle.elf_model.specs.Loader.{SymbolQuery, VersionQuery, asked_name, VersymTable, versym_at, symbol_offset, answers, readings, CompareResult, compared_with, NumberNameSource, naming_of, is_among}
use Rattle.elf_model.specs.Names.{DisplayedName, shown, pad64}
use Rattle.elf_model.specs.Names.DisplayedName.{Whole}
use Rattle.elf_model.specs.Records.{FILE_HEADER_SIZE, SECTION_HEADER_SIZE, PROGRAM_HEADER_SIZE, e_shnum, e_phnum, p_filesz, segment_at, versym}
use Rattle.elf_model.specs.SysvWalk.{sysv_walked}
use Rattle.elf_model.specs.Tables.{SYMBOL_SIZE, segment_dynamic_checks}
use Rattle.elf_model.specs.Versions.{VERSYM_SIZE, DEFINITION_SIZE, DEFINED_NAME_SIZE, number_in, named_at, name_index}
use Rattle.elf_model.specs.declared.causes.Cause.TheVariants.{HashShape, VersionIndex}
use Rattle.elf_model.specs.declared.causes.Refusal.{Refusal}
use Rattle.elf_model.specs.LoaderScope.{GnuTable, SysvTable, LookupTables, lookup_tables_of, dynamic_segment_index}

-- the check of a hash table's counts against its size. Of a GNU hash table: it has a bucket; the
-- number of its filter's words is a power of two; its shift leaves bits of a hash
unfoldable pub counts_check : List ℕ → LookupTables → Check
counts_check file scope =
    let place = scope.table.place in
    elim scope.kind [
      | GnuTable ↦
          refuse
          ((gnu_nbucket file place == 0)
          || not (count_ones (gnu_nbloom file place) == 1)
          || not (nat_lt (gnu_shift file place) 32)
          || nat_lt scope.table.size (before_chains file place))
          scope.head HashShape
      | SysvTable ↦
          refuse
          ((sysv_nbucket file place == 0)
          || nat_lt scope.table.size (8 + 4 * sysv_nbucket file place + 4 * sysv_nchain file place))
          scope.head HashShape
    ]

-- the walk for the symbol that answers, if the indices of the version by its name are known
unfoldable pub walk_in : List ℕ → LookupTables → SymbolQuery → (ℕ → Bool) → ChainResult
walk_in file scope wanted is_wanted = elim scope.kind [
  | GnuTable ↦ gnu_looked_up file scope.table (gnu_hash wanted.name) (answers file scope.symbols wanted is_wanted)
  | SysvTable ↦ sysv_walked file scope.table (sysv_hash wanted.name) (answers file scope.symbols wanted is_wanted)
]

-- the version of a symbol that is found: the index of what describes its versym entry, the entry,
-- and the name
pub record FoundVersion : Type 0 where
  pub index : ℕ
  pub word : ℕ
  pub name : DisplayedName

-- THE RESULT OF A LOOKUP: its outcome, and how many symbols it tries; the version of the symbol, if
-- the file has versions; how many chain words it reads, and how many version records; and whether
-- it reads the name of a version to return it
pub record LoaderLookup : Type 0 where
  pub lookup : Lookup
  pub version : Option FoundVersion
  pub chain_words : ℕ
  pub records : ℕ
  pub is_named : Bool

-- a lookup that is refused, after it has read this much
abbrev pub refused_lookup : (tried chain_words records : ℕ) → Bool → Refusal → LoaderLookup
refused_lookup tried chain_words records is_named refusal = record {
  lookup = record { answer = Refused refusal; compared = tried };
  version = None;
  chain_words = chain_words;
  records = records;
  is_named = is_named;
}

-- the maximum number of bytes of a version's name that are returned
abbrev pub TOLD_BYTES : ℕ
TOLD_BYTES = 256

-- the symbol that a walk finds, if it finds one, and its version
abbrev pub found_lookup : LookupTables → ℕ → ChainResult → (records : ℕ) → Bool → Option FoundVersion → LoaderLookup
found_lookup scope y walked records is_named version = record {
  lookup = record { answer = Found scope.symbols.index y (symbol_offset scope.symbols y); compared = walked.tried };
  version = version;
  chain_words = walked.read;
  records = records;
  is_named = is_named;
}

-- the version of a symbol is named by the record that has its index: the record's name; a fault of
-- the name, at the record that has it, or the refusal that comes before; or that no record has it,
-- at the symbol's versym entry
unfoldable pub named_by_record : List ℕ → LookupTables → VersymTable → ℕ → ChainResult → NumberNameSource → LoaderLookup
named_by_record file scope words y walked naming =
    let word_at = versym_at words y in
    elim naming.found [
      | Some found ↦ elim (shown found.0 (name_index file found.1) TOLD_BYTES) [
        | Ok name ↦
            found_lookup scope y walked naming.read true
            (Some (record { index = words.index; word = versym file word_at; name = name }))
        | Err cause ↦
            refused_lookup walked.tried walked.read naming.read true (record { at = named_at file found.1; cause = cause })
      ]
      | None ↦ elim naming.refused [
        | Some refusal ↦ refused_lookup walked.tried walked.read naming.read false refusal
        | None ↦ refused_lookup walked.tried walked.read naming.read false (record { at = word_at; cause = VersionIndex })
      ]
    ]

-- the version of a symbol that is found: without a versym table there is none; the wanted one is
-- returned as it was requested; the indices 0 and 1 have no name
unfoldable pub found_in : List ℕ → LookupTables → VersionQuery → (records : ℕ) → ℕ → ChainResult → Option VersymTable → LoaderLookup
found_in file scope asked records y walked None = found_lookup scope y walked records false None
found_in file scope asked records y walked (Some words) =
    let word = versym file (versym_at words y) in
    elim (asked_name asked) [
      | Some version ↦
          found_lookup scope y walked records false (Some (record { index = words.index; word = word; name = Whole version }))
      | None ↦ elim (nat_lt (number_in word) 2) [
        | true ↦ found_lookup scope y walked records false (Some (record { index = words.index; word = word; name = Whole [] }))
        | false ↦
            named_by_record file scope words y walked (naming_of file (number_in word) (readings file scope.symbols.records))
      ]
    ]

-- the result of a lookup by its walk, before which this many records are read
unfoldable pub looked_by : List ℕ → LookupTables → VersionQuery → (records : ℕ) → ChainResult → LoaderLookup
looked_by file scope asked records walked = elim walked.answer [
  | Err refusal ↦ refused_lookup walked.tried walked.read records false refusal
  | Ok None ↦ record {
    lookup = record { answer = Absent; compared = walked.tried };
    version = None;
    chain_words = walked.read;
    records = records;
    is_named = false;
  }
  | Ok (Some y) ↦ found_in file scope asked records y walked scope.symbols.words
]

-- the indices of the version that is requested by its name, if one is and the symbols have versions
unfoldable pub version_indices : List ℕ → LookupTables → VersionQuery → CompareResult
version_indices file scope asked =
    let none : CompareResult = record { numbers = []; refused = None; read = 0 } in
    elim (asked_name asked) [
      | None ↦ none
      | Some version ↦ elim scope.symbols.words [
        | None ↦ none
        | Some words ↦ compared_with file version (readings file scope.symbols.records)
      ]
    ]

-- a lookup once the checks of its tables pass: the table's counts, the indices of the version, the
-- walk
unfoldable pub loaded_in : List ℕ → LookupTables → SymbolQuery → LoaderLookup
loaded_in file scope wanted = elim (first_refusal (counts_check file scope ∷ [])) [
  | Some refusal ↦ refused_lookup 0 0 0 false refusal
  | None ↦
      let compared = version_indices file scope wanted.asked in
      elim compared.refused [
        | Some refusal ↦ refused_lookup 0 0 compared.read false refusal
        | None ↦
            looked_by file scope wanted.asked compared.read
            (walk_in file scope wanted (λ number. is_among number compared.numbers))
      ]
]

-- THE RESULT OF A LOADER'S LOOKUP in a file, with this many headers allowed
unfoldable pub loader_looked : List ℕ → ℕ → SymbolQuery → LoaderLookup
loader_looked file headers wanted = elim (lookup_tables_of file headers) [
  | Err refusal ↦ refused_lookup 0 0 0 false refusal
  | Ok scope ↦ loaded_in file scope wanted
]

-- HOW MANY BYTES IT MAY READ. What describes the tables in a file without section headers: the
-- program headers, and the first table of dynamic entries, if its checks pass
unfoldable pub segments_asked : List ℕ → ℕ
segments_asked file =
    cost_where (e_shnum file == 0)
    (PROGRAM_HEADER_SIZE * e_phnum file
    + elim (dynamic_segment_index file) [
      | None ↦ 0
      | Some index ↦
          let at = segment_at file index in
          cost_where (pass (segment_dynamic_checks file at)) (p_filesz file at)
    ])

-- a version record, a definition with the first of its names, and the wanted version's name with
-- each if one is requested
abbrev pub record_cost : VersionQuery → ℕ
record_cost asked = DEFINITION_SIZE + DEFINED_NAME_SIZE + elim (asked_name asked) [ None ↦ 0 | Some version ↦ pad64 (length version + 1) ]

-- what is read after the headers: the chain words; a symbol, its versym entry and its name for each
-- that is tried; the version records; and the name of one that is returned
unfoldable pub lookup_asks : SymbolQuery → LoaderLookup → ℕ
lookup_asks wanted loader =
    4 * loader.chain_words
    + loader.lookup.compared * (SYMBOL_SIZE + VERSYM_SIZE + pad64 (length wanted.name + 1))
    + loader.records * record_cost wanted.asked
    + cost_where loader.is_named (pad64 (TOLD_BYTES + 1))

-- the file header alone if the section headers are not read, otherwise that, four counts, a word of
-- a filter, a word of a bucket, the section headers, or the program headers and the dynamic
-- entries, and what the lookup reads
unfoldable pub loader_cost : List ℕ → ℕ → SymbolQuery → ℕ
loader_cost file headers wanted = elim (first_refusal (before_headers file headers)) [
  | Some refusal ↦ FILE_HEADER_SIZE
  | None ↦
      FILE_HEADER_SIZE + 16 + 8 + 4 + SECTION_HEADER_SIZE * e_shnum file + segments_asked file
      + lookup_asks wanted (loader_looked file headers wanted)
]

-- the upper bound of what a lookup reads, for any bytes of the file: only by its length, how many
-- headers are allowed and what is wanted
unfoldable pub loader_ceiling : (size headers : ℕ) → SymbolQuery → ℕ
loader_ceiling size headers wanted =
    FILE_HEADER_SIZE + 16 + 8 + 4 + SECTION_HEADER_SIZE * headers + size
    + size / 4 * (4 + SYMBOL_SIZE + VERSYM_SIZE + pad64 (length wanted.name + 1))
    + size / 8 * record_cost wanted.asked
    + pad64 (TOLD_BYTES + 1)
