use Rattle.std.proofs.Common.{◌≡◌, ℕ, List, []}
use Rattle.std.specs.Prelude.{Some}
use Rattle.elf_model.specs.Records.{e_shnum}
use Rattle.elf_source.specs.Prelude.{KeepsSource}
use Rattle.elf_table.specs.Load.{HoldsSectionHeaders}
use Rattle.elf_resolve.specs.ObjectTables.{HoldsTables}
use Rattle.elf_resolve.specs.SectionMarks.{MarksDropped}
use Rattle.elf_resolve.proofs.GroupTakenLaws.{TakenSoFar}
use Rattle.elf_resolve.proofs.section_groups.drop_groups.Given as goal

abbrev pub invariant-loop-section : goal.invariant-loop-section
invariant-loop-section g l =
    KeepsSource l.initial.src.seen l.src.seen
    × (l.strings ≡ l.initial.strings)
    × ((file : List ℕ) → l.initial.src.seen.file ≡ Some file → HoldsSectionHeaders file l.view.loaded l.view.store.now → HoldsTables file l.initial.strings.bytes l.tables
    → MarksDropped (e_shnum file) l.initial.marks [] → TakenSoFar file l.section l.initial.keys l.keys l.marks)
    × (l.src.most ≡ l.initial.src.most)
