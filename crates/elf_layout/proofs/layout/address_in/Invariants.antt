-- The remaining items give the result.
use Rattle.std.proofs.Common.{length, ◌-◌, ◌≡◌, ◌≤◌, drop}
use Rattle.elf_model.specs.Placing.{address_in}
use Rattle.elf_layout.proofs.layout.address_in.Given as goal

abbrev pub invariant-loop-i : goal.invariant-loop-i
invariant-loop-i l = record {
  within : l.i ≤ length l.items;
  left : address_in (drop l.i l.items) l.section ≡ address_in l.items l.section;
}

abbrev pub decreases-loop-i : goal.decreases-loop-i
decreases-loop-i l = length l.items - l.i
