-- Each try leaves fewer, and what is left of the budget decreases by at least what was requested
-- from the files before this one.
use Rattle.std.proofs.Common.{◌≤◌, length}
use Rattle.elf_library.specs.Prelude.{SpendsBudgetAtLeast}
use Rattle.elf_needs.proofs.search_dirs.Search.try_all.Given as goal

abbrev pub invariant-loop-search : goal.invariant-loop-search
invariant-loop-search g l = record {
  closes : l.fn.system.closed.asked ≤ l.system.closed.asked;
  few : l.self.tries.left ≤ l.fn.self.tries.left;
  pays : SpendsBudgetAtLeast l.fn.self.left l.self.left l.fn.system.closed.asked l.system.closed.asked;
}

abbrev pub decreases-loop-search : goal.decreases-loop-search
decreases-loop-search g l = length l.search
