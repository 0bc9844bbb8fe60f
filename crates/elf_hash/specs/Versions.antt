-- The version tables by the section headers: their checks, and their contents.
use Rattle.std.specs.Prelude.{ℕ, ◌==◌, not, List, [], ◌∷◌, ◌++◌, Option, IfSome}
use Rattle.elf_model.specs.Prelude.{Check, VERSYM_SIZE, VersionRecordTable as IsTableOf, VersymTable as IsWordsOf, checks_of_section, records_with, refuse, sh_link, sh_offset, sh_size, strings_of, table_checks, unless_empty, words_section}
use Rattle.elf_model.specs.declared.causes.Cause.TheVariants.{BadLink}
use Rattle.elf_model.specs.declared.versions.VersionKind.{VersionKind}
use Rattle.elf_table.specs.Tables.{TableInBounds}
use Rattle.elf_hash.specs.Symbols.{AreVersymTable, AreVersionRecordTables, VersionRecordsInBounds, table_if_any}
use Rattle.elf_hash.specs.declared.symbols.VersionRecordTable.{VersionRecordTable}
use Rattle.elf_hash.specs.declared.versions.VersionTables.{VersionTables}

-- the checks of the version symbol table, for the symbols of the hash table's section
abbrev pub words_checks : List ℕ → ℕ → List Check
words_checks file at =
    checks_of_section file (words_section file) (λ words_at.
    unless_empty (sh_size file words_at) (table_checks file words_at VERSYM_SIZE)
    ++ (refuse (not (sh_link file words_at == sh_link file at)) words_at BadLink ∷ []))

-- the definitions, or the needs, of a section
abbrev pub records_at : List ℕ → VersionKind → ℕ → IsTableOf
records_at file kind at =
    record { kind = kind; head = at; place = sh_offset file at; size = sh_size file at; strings = strings_of file at }

-- tables before others are those of the model before others
abbrev pub AreInFront : List ℕ → (List IsTableOf → List IsTableOf) → Option VersionRecordTable → Type 0
AreInFront file told found =
    (others : List IsTableOf) (tables : List VersionRecordTable) → AreVersionRecordTables file others tables
    → AreVersionRecordTables file (told others) (table_if_any found ++ tables)

-- the version tables are those that are known
pub record AreVersions (file : List ℕ) (told : Option IsWordsOf) (told_records : List IsTableOf) (versions : VersionTables) : Type 0 where
  pub words : AreVersymTable told versions.words
  pub records : AreVersionRecordTables file (records_with told told_records) (table_if_any versions.definitions ++ table_if_any versions.needs)

-- they lie within a source of this size
pub record VersionsInBounds (size : ℕ) (versions : VersionTables) : Type 0 where
  pub words : IfSome versions.words (λ words. TableInBounds size words.words)
  pub definitions : IfSome versions.definitions (VersionRecordsInBounds size)
  pub needs : IfSome versions.needs (VersionRecordsInBounds size)
