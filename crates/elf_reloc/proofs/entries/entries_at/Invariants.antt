-- No section so far has the entry.
use Rattle.std.proofs.Common.{◌≡◌, ℕ, ◌<◌, false, List}
use Rattle.elf_model.specs.Prelude.{relocates_at, section_at}
use Rattle.elf_table.specs.Load.{HoldsSectionHeaders}
use Rattle.elf_reloc.proofs.entries.entries_at.Given as goal

abbrev pub invariant-loop-index : goal.invariant-loop-index
invariant-loop-index l =
    (bytes : List ℕ) → HoldsSectionHeaders bytes l.file.loaded l.file.store.now
    → (i : ℕ) → i < l.index → relocates_at bytes l.section l.rela (section_at bytes i) ≡ false
