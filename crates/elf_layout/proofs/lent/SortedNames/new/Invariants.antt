-- Those before this one are names in ascending order, and the longest of them has this many bytes.
use Rattle.std.proofs.Common.{length, take, ◌-◌, ◌≡◌, ◌≤◌, ◌<◌, ℕ, get_or}
use Rattle.std.proofs.lemmas.Cmp.{nat_list_cmp_total}
use Rattle.elf_model.specs.ApplyCost.{longest}
use Rattle.elf_layout.specs.Prelude.{IsName, lent_name, named}
use Rattle.elf_layout.specs.declared.lent.LentName.{LentName}
use Rattle.elf_layout.proofs.LentSteps.{Below}
use Rattle.elf_layout.proofs.lent.SortedNames.new.Given as goal

abbrev pub invariant-loop-i : goal.invariant-loop-i
invariant-loop-i l = record {
  within : l.i ≤ length l.items;
  below : Below nat_list_cmp_total lent_name l.items l.i;
  names : (k : ℕ) (d : LentName) → k < l.i → IsName (lent_name (get_or l.items k d));
  longest : l.most ≡ longest (named (take l.i l.items));
}

abbrev pub decreases-loop-i : goal.decreases-loop-i
decreases-loop-i l = length l.items - l.i
