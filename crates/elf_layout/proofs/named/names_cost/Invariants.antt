-- The cost of the names before this one, and of the remaining ones.
use Rattle.std.proofs.Common.{length, ◌-◌, ◌≡◌, ◌+◌, ◌*◌, ◌≤◌, drop}
use Rattle.elf_layout.specs.Layouts.{items_cost}
use Rattle.elf_layout.proofs.named.names_cost.Given as goal

abbrev pub invariant-loop-i : goal.invariant-loop-i
invariant-loop-i l = record {
  within : l.i ≤ length l.items;
  few : l.cost ≤ 256 * l.i;
  left : l.cost + items_cost (drop l.i l.items) ≡ items_cost l.items;
}

abbrev pub decreases-loop-i : goal.decreases-loop-i
decreases-loop-i l = length l.items - l.i
