-- What is left of the budget decreases by at least what was requested from the files of the objects
-- before this one.
use Rattle.elf_needs.specs.Budget.{AsksFiles}
use Rattle.elf_needs.proofs.walk.DependencyWalk.find.Given as goal

abbrev pub invariant-loop-index : goal.invariant-loop-index
invariant-loop-index g l = record {
  asks : AsksFiles l.fn.file.asked l.fn.opened.objects.items l.opened.objects.items l.fn.self.search.left l.self.search.left l.fn.system.closed.asked l.system.closed.asked;
}
