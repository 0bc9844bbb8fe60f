-- The lines of the objects before this one are written.
use Rattle.std.proofs.Common.{◌≡◌, ℕ, List, drop, length}
use Rattle.elf_model.specs.Prelude.{version_items, version_items_from}
use Rattle.elf_needs.specs.Prelude.{AreObjectFiles, AsksAll}
use Rattle.elf_needs.specs.ItemLines.{WritesSoFar}
use Rattle.elf_needs.specs.Providers.{versioned_among}
use Rattle.elf_needs.specs.VersionLines.{needed_version_lines}
use Rattle.elf_needs.proofs.version_lines.check_all.Given as goal

abbrev pub invariant-loop-place : goal.invariant-loop-place
invariant-loop-place g l = record {
  asks : AsksAll l.fn.objects l.objects l.fn.left l.left;
  known : (headers : ℕ) (files : List (List ℕ)) → AreObjectFiles headers l.fn.objects files
      → WritesSoFar (needed_version_lines l.scope.lines.format) (version_items (versioned_among files l.scope)) (version_items_from (versioned_among files l.scope) l.place (drop l.place files))
      l.fn.out l.out l.fails;
  end : l.place-end ≡ length l.fn.objects;
}
