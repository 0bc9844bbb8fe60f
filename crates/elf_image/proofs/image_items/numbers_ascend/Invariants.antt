-- The items before this one ascend.
use Rattle.std.proofs.Common.{length, ◌-◌, ◌≤◌}
use Rattle.std.proofs.lemmas.Cmp.{nat_cmp_total}
use Rattle.elf_image.specs.Items.{item_rank_of}
use Rattle.elf_layout.proofs.LentSteps.{Below}
use Rattle.elf_image.proofs.image_items.numbers_ascend.Given as goal

abbrev pub invariant-loop-i : goal.invariant-loop-i
invariant-loop-i l = record {
  within : l.i ≤ length l.items;
  below : Below nat_cmp_total item_rank_of l.items l.i;
}

abbrev pub decreases-loop-i : goal.decreases-loop-i
decreases-loop-i l = length l.items - l.i
