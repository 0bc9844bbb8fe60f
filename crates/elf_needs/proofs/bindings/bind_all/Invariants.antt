-- The lines of the objects before this one are written.
use Rattle.std.proofs.Common.{◌≡◌, ℕ, List, drop, length}
use Rattle.elf_model.specs.BoundSymbols.{bound_items, objects_items}
use Rattle.elf_needs.specs.Prelude.{AreObjectFiles, AsksAll, WritesSoFar, bound_among, bound_lines}
use Rattle.elf_needs.proofs.bindings.bind_all.Given as goal

abbrev pub invariant-loop-place : goal.invariant-loop-place
invariant-loop-place g l = record {
  asks : AsksAll l.fn.objects l.objects l.fn.left l.left;
  known : (headers : ℕ) (files : List (List ℕ)) → AreObjectFiles headers l.fn.objects files
      → WritesSoFar (bound_lines l.scope.lines) (bound_items (bound_among headers files l.scope)) (objects_items (bound_among headers files l.scope) l.place (drop l.place files))
      l.fn.out l.out l.fails;
  end : l.place-end ≡ length l.fn.objects;
}
