use Rattle.std.proofs.Common.{ℕ, List}
use Rattle.elf_model.specs.Records.{e_shnum}
use Rattle.elf_table.specs.Load.{HoldsSectionHeaders}
use Rattle.elf_resolve.specs.ObjectTables.{HoldsTables}
use Rattle.elf_resolve.specs.SectionMarks.{MarksDropped}
use Rattle.elf_resolve.proofs.SectionNameLaws.{NotedSoFar}
use Rattle.elf_resolve.proofs.section_names.note_sections.Given as goal

abbrev pub invariant-loop-section : goal.invariant-loop-section
invariant-loop-section l =
    (file dropped : List ℕ) → HoldsSectionHeaders file l.view.loaded l.view.store.now → HoldsTables file l.strings.bytes l.tables → MarksDropped (e_shnum file) l.marks dropped
    → NotedSoFar file dropped l.section l.initial.keys l.keys
