-- The tables of an object in a buffer.
use Rattle.std.specs.Prelude.{ℕ, ◌≡◌, ◌+◌, ◌*◌, ◌<◌, ◌≤◌, ◌^◌, List, length, Option, None, Some}
use Rattle.elf_model.specs.LinkSymbols.{symbol_table_in}
use Rattle.elf_model.specs.Records.{e_shnum, e_shstrndx, section_at, sh_info, sh_offset}
use Rattle.elf_model.specs.Tables.{SYMBOL_SIZE, entry_count, section_bytes, strings_of}
use Rattle.elf_resolve.specs.StringBuffers.{HoldsText}
use Rattle.elf_resolve.specs.declared.object.ObjectTables.{ObjectTables}
use Rattle.elf_resolve.specs.declared.object.SymbolRows.{SymbolRows}
use Rattle.elf_resolve.specs.declared.string_buffer.HeldText.{HeldText}

-- the symbols of the table whose section header is at an offset, and their names, if it has some
pub record HoldsSymbols (file bytes : List ℕ) (table_at : ℕ) (symbols : SymbolRows) : Type 0 where
  pub rows : HoldsText bytes symbols.rows (section_bytes file table_at)
  pub names : 0 < symbols.count → HoldsText bytes symbols.names (strings_of file table_at)
  pub at : symbols.at ≡ sh_offset file table_at
  pub count : symbols.count ≡ entry_count file table_at SYMBOL_SIZE
  pub whole : SYMBOL_SIZE * symbols.count ≤ length (section_bytes file table_at)
  pub fits : symbols.at + SYMBOL_SIZE * symbols.count < 2 ^ 64

-- THE SYMBOLS of an object: of its first symbol table, if it has one
pub record HoldsFirstSymbols (file bytes : List ℕ) (symbols : SymbolRows) : Type 0 where
  pub table : symbol_table_in file ≡ Some symbols.section
  pub holds : HoldsSymbols file bytes (section_at file symbols.section) symbols
  pub first : symbols.first ≡ sh_info file (section_at file symbols.section)

abbrev pub HoldsObjectSymbols : (file bytes : List ℕ) → Option SymbolRows → Type 0
HoldsObjectSymbols file bytes None = symbol_table_in file ≡ None
HoldsObjectSymbols file bytes (Some symbols) = HoldsFirstSymbols file bytes symbols

-- THE NAMES of its sections, if it has some
pub record HoldsNames (file bytes : List ℕ) (names : HeldText) : Type 0 where
  pub some : e_shstrndx file ≡ 0 → ⊥
  pub holds : HoldsText bytes names (section_bytes file (section_at file (e_shstrndx file)))

abbrev pub HoldsSectionNames : (file bytes : List ℕ) → Option HeldText → Type 0
HoldsSectionNames file bytes None = 0 < e_shnum file → e_shstrndx file ≡ 0
HoldsSectionNames file bytes (Some names) = HoldsNames file bytes names

pub record HoldsTables (file bytes : List ℕ) (tables : ObjectTables) : Type 0 where
  pub symbols : HoldsObjectSymbols file bytes tables.symbols
  pub sections : HoldsSectionNames file bytes tables.sections
