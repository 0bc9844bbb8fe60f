-- What is left of the budget decreases by what was requested from the objects before this one.
use Rattle.std.proofs.Common.{◌≡◌, length}
use Rattle.elf_needs.specs.Prelude.{AsksAll}
use Rattle.elf_needs.proofs.unused.copied_from.Given as goal

abbrev pub invariant-loop-object : goal.invariant-loop-object
invariant-loop-object g l = record {
  asks : AsksAll l.fn.objects l.objects l.fn.left l.left;
  end : l.object-end ≡ length l.fn.objects;
}
