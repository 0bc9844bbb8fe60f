-- What is left of the budget decreases by what was requested from the objects so far.
use Rattle.std.proofs.Common.{◌≡◌, ◌/◌}
use Rattle.elf_needs.specs.Prelude.{AsksAll}
use Rattle.elf_needs.proofs.unused.mark_copied.Given as goal

abbrev pub invariant-loop-entry : goal.invariant-loop-entry
invariant-loop-entry g l = record {
  asks : AsksAll l.fn.objects l.objects l.fn.left l.left;
  end : l.entry-end ≡ l.fn.entries.size / 24;
}
