-- The tables of a shared library in a buffer, and its symbols as they are read and taken.
use Rattle.std.specs.Prelude.{ℕ, ◌≡◌, ◌+◌, ◌-◌, ◌<◌, ◌^◌, List, [], ◌∷◌, length, Option, None, Some, Result, Ok, Err}
use Rattle.elf_model.specs.HeaderTables.{file_sections, first_typed}
use Rattle.elf_model.specs.LinkArchives.{refusal_of}
use Rattle.elf_model.specs.LinkKeys.{LinkSymbol}
use Rattle.elf_model.specs.LinkSymbols.{followed}
use Rattle.elf_model.specs.Numbers.{SHT_DYNSYM}
use Rattle.elf_model.specs.Records.{section_at, sh_info, sh_offset, sh_size}
use Rattle.elf_model.specs.Tables.{section_bytes}
use Rattle.elf_model.specs.declared.link_states.LinkRefusal.{LinkRefusal}
use Rattle.elf_resolve.specs.KeyTables.{KeyList}
use Rattle.elf_resolve.specs.LibraryKeys.{KeyNames, LibraryVersions, library_symbols_from}
use Rattle.elf_resolve.specs.LibrarySymbols.{library_use}
use Rattle.elf_resolve.specs.ObjectSymbols.{HoldsSome}
use Rattle.elf_resolve.specs.ObjectTables.{HoldsSymbols}
use Rattle.elf_resolve.specs.StringBuffers.{HoldsText}
use Rattle.elf_resolve.specs.Symbols.{TookSymbols}
use Rattle.elf_resolve.specs.Taken.{IsLinkFault}
use Rattle.elf_resolve.specs.VersionWalks.{HoldsVersionNames, IsRecordRefusal}
use Rattle.elf_resolve.specs.declared.library.LibraryTables.{LibraryTables}
use Rattle.elf_resolve.specs.declared.library.VersionRows.{VersionRows}
use Rattle.elf_resolve.specs.declared.library_symbols.LibrarySymbol.{LibrarySymbol}
use Rattle.elf_resolve.specs.declared.link_faults.LinkFault.{LinkFault}
use Rattle.elf_resolve.specs.declared.object.SymbolRows.{SymbolRows}
use Rattle.elf_resolve.specs.declared.string_buffer.HeldText.{HeldText}
use Rattle.elf_resolve.specs.declared.version_room.VersionNames.{VersionNames}

-- the index of the first symbol of a table that is not local, and that after the last
abbrev pub range_of_symbols : Option SymbolRows → ℕ × ℕ
range_of_symbols None = (0, 0)
range_of_symbols (Some symbols) = (symbols.first, symbols.count)

-- THE VERSION INDEXES of the symbols, in the section whose header is at an offset
pub record HoldsIndexes (file bytes : List ℕ) (at : ℕ) (indexes : VersionRows) : Type 0 where
  pub rows : HoldsText bytes indexes.rows (section_bytes file at)
  pub whole : length (section_bytes file at) ≡ sh_size file at
  pub at_is : indexes.at ≡ sh_offset file at
  pub header_is : indexes.header ≡ at
  pub fits : indexes.at + sh_size file at < 2 ^ 64

abbrev pub HoldsSomeIndexes : (file bytes : List ℕ) → Option ℕ → Option VersionRows → Type 0
HoldsSomeIndexes file bytes header None = header ≡ None
HoldsSomeIndexes file bytes header (Some indexes) = (at : ℕ) × (header ≡ Some at) × HoldsIndexes file bytes at indexes

-- THE VERSIONS OF A LIBRARY in a buffer
pub record HoldsLibraryVersions (file bytes : List ℕ) (indexes : Option VersionRows) (texts : VersionNames) (versions : LibraryVersions) : Type 0 where
  pub indexes_are : HoldsSomeIndexes file bytes versions.indexes indexes
  pub defined : HoldsVersionNames bytes texts.defined.items versions.defined
  pub needed : HoldsVersionNames bytes texts.needed.items versions.needed

-- a version index is found, or the section has none
abbrev pub FindsVersionIndex : Result ℕ LinkRefusal → Result ℕ LinkFault → Type 0
FindsVersionIndex known (Ok word) = known ≡ Ok word
FindsVersionIndex known (Err fault) = IsRecordRefusal (refusal_of known) fault

-- THE NAMES OF THE KEYS of a symbol are in a buffer, or refused, or there is no room for them
pub record HoldsKeyNames (bytes : List ℕ) (texts : HeldText × Option HeldText) (names : KeyNames) : Type 0 where
  pub name : HoldsText bytes texts.0 names.name
  pub default_name : HoldsSome bytes texts.1 names.default_name

abbrev pub FindsKeyNames : Result KeyNames LinkRefusal → (bytes : List ℕ) → Result (HeldText × Option HeldText) LinkFault → Type 0
FindsKeyNames known bytes (Ok texts) = (names : KeyNames) × (known ≡ Ok names) × HoldsKeyNames bytes texts names
FindsKeyNames known bytes (Err fault) = IsLinkFault (refusal_of known) fault

-- A SYMBOL OF A LIBRARY, whose names are in a buffer
pub record HoldsLibrarySymbol (bytes : List ℕ) (found : LibrarySymbol) (symbol : LinkSymbol) : Type 0 where
  pub name : HoldsText bytes found.name symbol.name
  pub default_name : HoldsSome bytes found.default symbol.default_name
  pub use_is : symbol.symbol ≡ library_use found.role

-- it is found, it does not count, or it is refused
abbrev pub FindsLibrarySymbol : Result (List LinkSymbol) LinkRefusal → (bytes : List ℕ) → (at : ℕ) → Result (Option LibrarySymbol) LinkFault → Type 0
FindsLibrarySymbol known bytes at (Ok None) = known ≡ Ok []
FindsLibrarySymbol known bytes at (Ok (Some found)) = (symbol : LinkSymbol) × (known ≡ Ok (symbol ∷ [])) × HoldsLibrarySymbol bytes found symbol × (found.at ≡ at)
FindsLibrarySymbol known bytes at (Err fault) = IsLinkFault (refusal_of known) fault

-- SYMBOLS TAKEN of a row, up to the first refusal
abbrev pub TakesLibrarySymbols : Result (List LinkSymbol) LinkRefusal → (old new : KeyList) → (row : ℕ) → Result (Unit {0}) LinkFault → Type 0
TakesLibrarySymbols known old new row (Ok done) = (symbols : List LinkSymbol) × (known ≡ Ok symbols) × TookSymbols old new symbols (Some row)
TakesLibrarySymbols known old new row (Err fault) = IsLinkFault (refusal_of known) fault

-- the symbols up to an index of a table are taken: with the others they are those from the first
abbrev pub TookLibraryRows : (file : List ℕ) → LibraryVersions → (table_at first index count : ℕ) → (old new : KeyList) → (row : ℕ) → Type 0
TookLibraryRows file versions table_at first index count old new row =
    (done : List LinkSymbol) × (library_symbols_from file versions table_at first (count - first) ≡ followed done (library_symbols_from file versions table_at index (count - index)))
    × TookSymbols old new done (Some row)

-- THE SYMBOL TABLE of a library for dynamic linking, if it has one
pub record HoldsDynamicSymbols (file bytes : List ℕ) (symbols : SymbolRows) : Type 0 where
  pub table : first_typed (file_sections file) SHT_DYNSYM ≡ Some symbols.section
  pub holds : HoldsSymbols file bytes (section_at file symbols.section) symbols
  pub first : symbols.first ≡ sh_info file (section_at file symbols.section)

abbrev pub HoldsSomeSymbols : (file bytes : List ℕ) → Option SymbolRows → Type 0
HoldsSomeSymbols file bytes None = first_typed (file_sections file) SHT_DYNSYM ≡ None
HoldsSomeSymbols file bytes (Some symbols) = HoldsDynamicSymbols file bytes symbols

-- THE TABLES OF A LIBRARY in a buffer: its symbols and their versions
pub record HoldsLibrary (file bytes : List ℕ) (tables : LibraryTables) (texts : VersionNames) (versions : LibraryVersions) : Type 0 where
  pub symbols : HoldsSomeSymbols file bytes tables.symbols
  pub versions_are : HoldsLibraryVersions file bytes tables.versions texts versions
