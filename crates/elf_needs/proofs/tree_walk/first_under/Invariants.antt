-- None of the objects so far is under the other.
use Rattle.std.proofs.Common.{◌≤◌, ◌-◌, length}
use Rattle.elf_needs.proofs.TreeLaws.{AreNotUnder}
use Rattle.elf_needs.proofs.tree_walk.first_under.Given as goal

abbrev pub invariant-loop-object : goal.invariant-loop-object
invariant-loop-object l = record {
  low : l.fn.from ≤ l.at;
  before : AreNotUnder l.known l.parent l.fn.from l.at;
}

abbrev pub decreases-loop-object : goal.decreases-loop-object
decreases-loop-object l = length l.known - l.at
