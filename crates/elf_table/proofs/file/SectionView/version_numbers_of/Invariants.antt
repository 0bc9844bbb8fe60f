-- No section so far holds symbol versions that link there.
use Rattle.std.proofs.Common.{◌≡◌, ◌==◌, ◌&&◌, ℕ, ◌<◌, false, List}
use Rattle.elf_model.specs.Prelude.{SHT_GNU_VERSYM, file_sections, header_field, sh_link, sh_type}
use Rattle.elf_table.specs.Prelude.{HoldsSectionHeaders, sections_in}
use Rattle.elf_table.proofs.file.SectionView.version_numbers_of.Given as goal

abbrev pub invariant-loop-section : goal.invariant-loop-section
invariant-loop-section l = record {
  value : (i : ℕ) → i < l.section
      → (header_field (sections_in l.self) sh_type i == SHT_GNU_VERSYM && header_field (sections_in l.self) sh_link i == l.symbols) ≡ false;
  held : (file : List ℕ) → HoldsSectionHeaders file l.self.loaded l.self.store.now → (i : ℕ) → i < l.section
      → (header_field (file_sections file) sh_type i == SHT_GNU_VERSYM && header_field (file_sections file) sh_link i == l.symbols) ≡ false;
}
