-- Nothing was requested.
use Rattle.std.proofs.Common.{◌≡◌}
use Rattle.elf_needs.proofs.walk.DependencyWalk.show_unused.Given as goal

abbrev pub invariant-loop-place : goal.invariant-loop-place
invariant-loop-place g l = record {
  same : l.self.search.left ≡ l.fn.self.search.left;
}
