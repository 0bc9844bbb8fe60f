-- What the section headers in a store imply for names and for symbol versions.
use Rattle.std.specs.Prelude.{ℕ, ◌≡◌, ◌<◌, ◌^◌, ◌/◌, ◌==◌, ◌||◌, ◌&&◌, Bool, true, false, List, None, Result, Ok, Err}
use Rattle.elf_model.specs.Prelude.{HeaderTable, SYMBOL_SIZE, VERSYM_SIZE, all_checks, entry_count, first_refusal, has_strings, has_symbol_table, header_field, held_headers, is_symbol_table, links, sh_link, sh_offset, sh_size, symbol_versions, versioned_symbols}
use Rattle.elf_table.specs.Store.{StoreState, row}
use Rattle.elf_table.specs.declared.fault.Fault.{Fault}
use Rattle.elf_table.specs.Relocations.{RefusedBy}
use Rattle.elf_table.specs.Tables.{TableRange}
use Rattle.elf_table.specs.declared.file.SectionView.{SectionView}

-- the section headers of a loaded file, as a store has them
abbrev pub sections_of : StoreState → HeaderTable
sections_of store = held_headers store.loaded (row store)

-- the same for a view
abbrev pub sections_in : SectionView → HeaderTable
sections_in f = sections_of f.store.now

-- a section is empty, or it links to a string table
abbrev pub has_names : HeaderTable → (index file_size : ℕ) → Bool
has_names headers i file_size = header_field headers sh_size i == 0 || has_strings headers i file_size

-- a section links to a section of symbols, which is not the first
pub record LinksToSymbols (store : StoreState) (section : ℕ) : Type 0 where
  pub below : sh_link (row store section) 0 < store.loaded
  pub small : sh_link (row store section) 0 < 2 ^ 16
  pub linked : (links (sections_of store) section && is_symbol_table (row store (sh_link (row store section) 0)) 0) ≡ true

-- THE VERSIONS OF SYMBOLS of a section that is not empty, and the symbols that it links to, by the
-- headers in the store
pub record CountsVersions (store : StoreState) (file_size : ℕ) (section : ℕ) (table : TableRange) (count : ℕ) : Type 0 where
  pub entry : table.entry ≡ VERSYM_SIZE
  pub counted : table.count ≡ header_field (sections_of store) sh_size section / VERSYM_SIZE
  pub linked : (header_field (sections_of store) sh_size section == 0) ≡ false → has_symbol_table (sections_of store) section file_size ≡ true
  pub symbols : (header_field (sections_of store) sh_size section == 0) ≡ false
      → count ≡ header_field (sections_of store) sh_size (header_field (sections_of store) sh_link section) / SYMBOL_SIZE

-- the same for a file, whose checks pass
pub record AreVersioned (file : List ℕ) (header : ℕ) (table : TableRange) (count : ℕ) : Type 0 where
  pub pass : first_refusal (all_checks symbol_versions.checks file header) ≡ None
  pub counted : table.count ≡ entry_count file header VERSYM_SIZE
  pub placed : table.at ≡ sh_offset file header
  pub symbols : (sh_size file header == 0) ≡ false → count ≡ versioned_symbols file header

-- the result for a section of symbol versions: those, or the first of its checks that fails
abbrev pub Versioned : List ℕ → ℕ → Result (TableRange × ℕ) Fault → Type 0
Versioned file header (Ok found) = AreVersioned file header found.0 found.1
Versioned file header (Err fault) = RefusedBy (all_checks symbol_versions.checks file header) fault
