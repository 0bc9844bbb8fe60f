-- No section so far has the name, and each was compared once.
use Rattle.std.proofs.Common.{◌≡◌, ◌-◌, ◌*◌, ◌≤◌, ℕ, List, None}
use Rattle.elf_model.specs.Prelude.{e_shnum, first_that, is_stack_section}
use Rattle.elf_table.specs.Prelude.{CallDid, HoldsSectionHeaders}
use Rattle.elf_loader.specs.Stacks.{AreSectionNames}
use Rattle.elf_loader.proofs.section_stack.named_section.Given as goal

abbrev pub invariant-sections : goal.invariant-sections
invariant-sections g l = record {
  within : l.index ≤ l.fn.view.store.now.loaded;
  so_far : CallDid l.fn.src l.src None (l.index * 64)
      (λ file. HoldsSectionHeaders file l.fn.view.loaded l.fn.view.store.now → AreSectionNames file l.fn.names
      → first_that (is_stack_section file) 0 (e_shnum file) ≡ first_that (is_stack_section file) l.index (e_shnum file - l.index));
}

abbrev pub decreases-sections : goal.decreases-sections
decreases-sections g l = l.count - l.index
