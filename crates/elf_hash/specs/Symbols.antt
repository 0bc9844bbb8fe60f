-- The relation of the symbols of a lookup to a file, and their ranges.
use Rattle.std.specs.Prelude.{ℕ, ◌≡◌, ◌<◌, List, [], ◌∷◌, ◌++◌, Option, None, Some, IfSome}
use Rattle.elf_model.specs.Loader.{VersymTable as IsWordsOf, VersionRecordTable as IsTableOf, DynamicSymbols as AreSymbolsOf}
use Rattle.elf_table.specs.Tables.{TableInBounds, StringsInBounds, strings_in}
use Rattle.elf_hash.specs.declared.symbols.VersionRecordTable.{VersionRecordTable}
use Rattle.elf_hash.specs.declared.symbols.DynamicSymbols.{DynamicSymbols}
use Rattle.elf_hash.specs.declared.symbols.VersymTable.{VersymTable}

-- the version symbol table is that of the definitions
pub record IsVersymTable (told : IsWordsOf) (words : VersymTable) : Type 0 where
  pub place : words.words.at ≡ told.place
  pub count : words.words.count ≡ told.count
  pub head : words.head ≡ told.head
  pub index : words.index ≡ told.index

-- there is such a table, or none
abbrev pub AreVersymTable : Option IsWordsOf → Option VersymTable → Type 0
AreVersymTable None None = Unit {0}
AreVersymTable (Some told) (Some words) = IsVersymTable told words
AreVersymTable None (Some words) = ⊥
AreVersymTable (Some told) None = ⊥

-- a table of version records; the strings of one without a byte are ignored
pub record IsVersionRecordTable (file : List ℕ) (told : IsTableOf) (records : VersionRecordTable) : Type 0 where
  pub kind : records.kind ≡ told.kind
  pub head : records.head ≡ told.head
  pub place : records.table.at ≡ told.place
  pub size : records.table.count ≡ told.size
  pub names : 0 < records.table.count → strings_in file records.names ≡ told.strings

-- the one, if there is one
abbrev pub table_if_any : Option VersionRecordTable → List VersionRecordTable
table_if_any None = []
table_if_any (Some table) = table ∷ []

-- consecutive tables of records
abbrev pub AreVersionRecordTables : List ℕ → List IsTableOf → List VersionRecordTable → Type 0
AreVersionRecordTables file [] [] = Unit {0}
AreVersionRecordTables file (told ∷ others) (table ∷ tables) = IsVersionRecordTable file told table × AreVersionRecordTables file others tables
AreVersionRecordTables file [] (table ∷ tables) = ⊥
AreVersionRecordTables file (told ∷ others) [] = ⊥

-- WHAT A LOADER KNOWS OF THE SYMBOLS of a file is what the definitions say; if there is no symbol
-- the strings are ignored
pub record IsDynamicSymbols (file : List ℕ) (told : AreSymbolsOf) (symbols : DynamicSymbols) : Type 0 where
  pub index : symbols.index ≡ told.index
  pub place : symbols.table.at ≡ told.place
  pub names : 0 < symbols.table.count → strings_in file symbols.names ≡ told.strings
  pub names_at : 0 < symbols.table.count → symbols.names.at ≡ told.strings_at
  pub words : AreVersymTable told.words symbols.words
  pub records : AreVersionRecordTables file told.records (table_if_any symbols.definitions ++ table_if_any symbols.needs)

-- a table of records lies within a source of this size
pub record VersionRecordsInBounds (size : ℕ) (records : VersionRecordTable) : Type 0 where
  pub table : TableInBounds size records.table
  pub names : StringsInBounds size records.names

-- symbols lie within a source of this size
pub record DynamicSymbolsInBounds (size : ℕ) (symbols : DynamicSymbols) : Type 0 where
  pub table : TableInBounds size symbols.table
  pub names : StringsInBounds size symbols.names
  pub words : IfSome symbols.words (λ words. TableInBounds size words.words)
  pub definitions : IfSome symbols.definitions (VersionRecordsInBounds size)
  pub needs : IfSome symbols.needs (VersionRecordsInBounds size)
