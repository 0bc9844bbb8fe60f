-- Consecutive version tables.
use Rattle.std.specs.Prelude.{ℕ, ◌+◌, List, [], ◌∷◌, ◌++◌, Option, None, Some}
use Rattle.elf_model.specs.Prelude.{VersionRecordRead, VersionRecordTable as IsTableOf, max_records, readings, readings_of}
use Rattle.elf_hash.specs.Prelude.{AreVersionRecordTables, IsVersionRecordTable, table_if_any}
use Rattle.elf_hash.specs.declared.symbols.DynamicSymbols.{DynamicSymbols}
use Rattle.elf_hash.specs.declared.symbols.VersionRecordTable.{VersionRecordTable}

-- the records that a walk over some tables reads, before others
unfoldable pub readings_before : List ℕ → List IsTableOf → List VersionRecordRead → List VersionRecordRead
readings_before file [] others = others
readings_before file (table ∷ tables) others = readings_of file table (readings_before file tables others)

-- the largest number of records of a table, if there is one; and of those of symbols
abbrev pub max_records_of : Option VersionRecordTable → ℕ
max_records_of None = 0
max_records_of (Some records) = max_records records.kind records.table.count

abbrev pub max_versions_of : DynamicSymbols → ℕ
max_versions_of symbols = max_records_of symbols.definitions + max_records_of symbols.needs

-- this holds of what is read of a table before others, and of the others
abbrev pub OfTable : VersionRecordTable → List ℕ → (List VersionRecordRead → List VersionRecordRead → Type 0) → Type 0
OfTable records file IsReadFault = (told : IsTableOf) (others : List VersionRecordRead) → IsVersionRecordTable file told records → IsReadFault (readings_of file told others) others

-- the same of the table, if there is one
abbrev pub OfAnyTable : Option VersionRecordTable → List ℕ → (List VersionRecordRead → List VersionRecordRead → Type 0) → Type 0
OfAnyTable records file IsReadFault =
    (told : List IsTableOf) (others : List VersionRecordRead) → AreVersionRecordTables file told (table_if_any records) → IsReadFault (readings_before file told others) others

-- the same of the definitions and the needs, with no others after them
abbrev pub OfTables : DynamicSymbols → List ℕ → (List VersionRecordRead → List VersionRecordRead → Type 0) → Type 0
OfTables symbols file IsReadFault =
    (told : List IsTableOf) → AreVersionRecordTables file told (table_if_any symbols.definitions ++ table_if_any symbols.needs) → IsReadFault (readings file told) []
