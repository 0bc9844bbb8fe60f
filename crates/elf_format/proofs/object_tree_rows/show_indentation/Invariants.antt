-- The spaces of the levels so far are written.
use Rattle.elf_source.specs.Prelude.{SinkTakes}
use Rattle.elf_format.specs.NeededObjects.{indentation}
use Rattle.elf_format.proofs.object_tree_rows.show_indentation.Given as goal

abbrev pub invariant-loop : goal.invariant-loop
invariant-loop g l = SinkTakes l.fn.out l.out (indentation l.counter)
