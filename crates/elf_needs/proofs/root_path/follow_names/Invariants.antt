use Rattle.std.proofs.Common.{length, ◌-◌}
use Rattle.elf_needs.specs.RootPaths.{IsWithinRoot}
use Rattle.elf_needs.proofs.root_path.follow_names.Given as goal

abbrev pub invariant-loop-at : goal.invariant-loop-at
invariant-loop-at g l = IsWithinRoot l.fn.root l.found.items

abbrev pub decreases-loop-at : goal.decreases-loop-at
decreases-loop-at g l = length l.names - l.at
