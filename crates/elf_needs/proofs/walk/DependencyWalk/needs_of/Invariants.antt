-- What is left of the budget decreases by at least what was requested from the files before this
-- one.
use Rattle.elf_needs.specs.Budget.{AsksFiles}
use Rattle.elf_needs.proofs.walk.DependencyWalk.needs_of.Given as goal

abbrev pub invariant-loop-place : goal.invariant-loop-place
invariant-loop-place g l = record {
  asks : AsksFiles 0 l.fn.opened.objects.items l.opened.objects.items l.fn.self.search.left l.self.search.left l.fn.system.closed.asked l.system.closed.asked;
}
