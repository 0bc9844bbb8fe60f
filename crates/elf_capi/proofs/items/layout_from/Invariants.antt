-- The remaining items are added after the layout so far.
use Rattle.std.proofs.Common.{length, ◌-◌, ◌≤◌, drop}
use Rattle.elf_model.specs.Placing.{Layout, no_items}
use Rattle.elf_capi.specs.Items.{LaysItems}
use Rattle.elf_capi.proofs.items.layout_from.Given as goal

abbrev pub invariant-loop-i : goal.invariant-loop-i
invariant-loop-i l = record {
  within : l.i ≤ length l.items;
  on : (new : Layout) → LaysItems l.layout (drop l.i l.items) new → LaysItems no_items l.items new;
  back : (new : Layout) → LaysItems no_items l.items new → LaysItems l.layout (drop l.i l.items) new;
}

abbrev pub decreases-loop-i : goal.decreases-loop-i
decreases-loop-i l = length l.items - l.i
