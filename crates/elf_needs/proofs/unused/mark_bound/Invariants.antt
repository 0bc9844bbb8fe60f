-- What is left of the budget decreases by what was requested from the objects so far.
use Rattle.elf_needs.specs.Prelude.{AsksAll}
use Rattle.elf_needs.proofs.unused.mark_bound.Given as goal

abbrev pub invariant-loop-symbol : goal.invariant-loop-symbol
invariant-loop-symbol g l = record {
  asks : AsksAll l.fn.objects l.objects l.fn.left l.left;
}
