use Rattle.std.proofs.Common.{◌≡◌, ◌++◌, false}
use Rattle.std.specs.Prelude.{replicate}
use Rattle.elf_resolve.proofs.archive_searches.add_marks.Given as goal

abbrev pub invariant-loop-added : goal.invariant-loop-added
invariant-loop-added l = l.taken.items ≡ l.initial.taken.items ++ replicate l.added false
