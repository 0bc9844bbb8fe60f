-- None of the sections so far has the name.
use Rattle.std.proofs.Common.{◌≡◌, ℕ, ◌+◌, ◌-◌, ◌*◌, ◌≤◌, List, None, length}
use Rattle.elf_model.specs.BytesQuery.{first_section_named, section_named_from}
use Rattle.elf_model.specs.Prelude.{e_shnum, pad64}
use Rattle.elf_table.specs.Prelude.{CallDid, HoldsSectionHeaders}
use Rattle.elf_reloc.proofs.section_bytes.section_named.Given as goal

abbrev pub invariant-loop-section : goal.invariant-loop-section
invariant-loop-section g l = record {
  did : CallDid l.fn.src l.src None (l.section * pad64 (length l.wanted + 1)) (λ bytes. HoldsSectionHeaders bytes l.file.loaded l.file.store.now
      → first_section_named bytes l.wanted ≡ section_named_from bytes l.wanted l.section (e_shnum bytes - l.section));
  high : l.section ≤ l.file.store.now.loaded;
  end : l.section-end ≡ l.file.store.now.loaded;
}
