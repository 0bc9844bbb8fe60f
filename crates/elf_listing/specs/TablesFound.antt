-- The tables of a section that were found to be as its header says.
use Rattle.std.specs.Prelude.{ℕ, ◌≡◌, ◌==◌, ◌<◌, true, List, Ok, IfSome}
use Rattle.elf_model.specs.Prelude.{SHT_DYNSYM, is_symbol_table, relocation_size, relocation_type, section_at, sh_type}
use Rattle.elf_table.specs.Files.{AnswersSection, table_in}
use Rattle.elf_table.specs.Prelude.{HoldsSectionHeaders, RelocatesWith, SymbolTableInBounds, TableInBounds, TableRange, row, symbols_at}
use Rattle.elf_table.specs.declared.file.SectionView.{SectionView}
use Rattle.elf_listing.specs.declared.relocations.Relocations.{Relocations}
use Rattle.elf_listing.specs.declared.symbols.Symbols.{Symbols}

-- the symbols of a section, which lie within the source with their names
pub record AreSymbolsOf (file : SectionView) (found : TableRange) (rows : Symbols) : Type 0 where
  pub kind : is_symbol_table (row file.store.now rows.section) 0 ≡ true
  pub typed : (bytes : List ℕ) → HoldsSectionHeaders bytes file.loaded file.store.now → is_symbol_table bytes (section_at bytes rows.section) ≡ true
  pub dynamic : (bytes : List ℕ) → HoldsSectionHeaders bytes file.loaded file.store.now → rows.is_dynamic ≡ (sh_type bytes (section_at bytes rows.section) == SHT_DYNSYM)
  pub held : AnswersSection file rows.section (Ok (found, rows.names)) symbols_at
  pub table : Ok found ≡ table_in file rows.section 24
  pub within : SymbolTableInBounds file.loaded.size (found, rows.names)

-- a section is of a type, as its header in the store says, and the file's
pub record IsOfType (file : SectionView) (section type : ℕ) : Type 0 where
  pub kind : sh_type (row file.store.now section) 0 ≡ type
  pub typed : (bytes : List ℕ) → HoldsSectionHeaders bytes file.loaded file.store.now → sh_type bytes (section_at bytes section) ≡ type

-- the relocation entries of a section, and the symbols that they refer to
pub record AreEntriesOf (file : SectionView) (found : TableRange) (rows : Relocations) : Type 0 where
  pub kind : sh_type (row file.store.now rows.section) 0 ≡ relocation_type rows.has_addends
  pub below : rows.section < file.store.now.loaded
  pub held : (bytes : List ℕ) → HoldsSectionHeaders bytes file.loaded file.store.now → RelocatesWith rows.has_addends bytes (section_at bytes rows.section) (Ok (found, rows.linked))
  pub table : Ok found ≡ table_in file rows.section (relocation_size rows.has_addends)
  pub entry : found.entry ≡ relocation_size rows.has_addends
  pub within : TableInBounds file.loaded.size found
  pub linked : IfSome rows.linked (SymbolTableInBounds file.loaded.size)
