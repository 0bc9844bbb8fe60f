-- What a loaded file with its store returns for its sections.
use Rattle.std.specs.Prelude.{ℕ, ◌≡◌, List, Result}
use Rattle.elf_model.specs.Records.{sh_size, section_at}
use Rattle.elf_record.specs.declared.ehdr.Ehdr.{Ehdr}
use Rattle.elf_table.specs.Load.{HoldsSectionHeaders, section_place}
use Rattle.elf_table.specs.Sections.{rows, table_of}
use Rattle.elf_table.specs.Store.{row}
use Rattle.elf_table.specs.Tables.{TableRange}
use Rattle.elf_table.specs.declared.fault.Fault.{Fault}
use Rattle.elf_table.specs.declared.file.SectionView.{SectionView}

-- a result for a section is what the file that was loaded has at its header
abbrev pub AnswersSection : {A : Type 0} → SectionView → ℕ → A → (List ℕ → ℕ → A) → Type 0
AnswersSection f section answer has = (file : List ℕ) → HoldsSectionHeaders file f.loaded f.store.now → answer ≡ has file (section_at file section)

-- the table of a section, by its header in the store
abbrev pub table_in : SectionView → ℕ → ℕ → Result TableRange Fault
table_in f section entry = table_of (row f.store.now section) 0 f.loaded.size (section_place f.loaded.header section) entry

-- how many bytes a section has, by its header in the store
abbrev pub size_in : SectionView → ℕ → ℕ
size_in f section = sh_size (row f.store.now section) 0

-- the program headers
abbrev pub program_headers : Ehdr → TableRange
program_headers header = rows header.e_phoff header.e_phnum 56
