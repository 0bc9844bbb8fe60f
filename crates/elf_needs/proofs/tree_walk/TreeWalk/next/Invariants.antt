-- What is left stays the same on the way up.
use Rattle.std.proofs.Common.{◌≡◌}
use Rattle.elf_needs.specs.Trees.{IsTreeWalk, places_left}
use Rattle.elf_needs.proofs.tree_walk.TreeWalk.next.Given as goal

abbrev pub invariant-levels : goal.invariant-levels
invariant-levels l = record {
  walks : IsTreeWalk l.self;
  same : places_left l.self ≡ places_left l.fn.self;
}

abbrev pub decreases-levels : goal.decreases-levels
decreases-levels l = l.self.depth
