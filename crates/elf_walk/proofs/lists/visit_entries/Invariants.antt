use Rattle.std.proofs.Common.{length, ◌-◌}
use Rattle.elf_walk.proofs.lists.visit_entries.Given as goal

abbrev pub decreases-loop-at : goal.decreases-loop-at
decreases-loop-at g l = length l.bytes - l.at
