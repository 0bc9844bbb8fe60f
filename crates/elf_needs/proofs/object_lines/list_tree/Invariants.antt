-- The lines of the places before these are written.
use Rattle.std.proofs.Common.{length}
use Rattle.elf_needs.specs.Trees.{IsTreeWalk, places_left, tree_places}
use Rattle.elf_needs.proofs.ObjectLineLaws.{WritesPlaces}
use Rattle.elf_needs.proofs.object_lines.list_tree.Given as goal

abbrev pub invariant-loop-place : goal.invariant-loop-place
invariant-loop-place g l = record {
  walks : IsTreeWalk l.walk;
  writes : WritesPlaces l.lines l.objects l.program (tree_places l.objects.known.items) (places_left l.walk) l.fn.out l.out;
}

abbrev pub decreases-loop-place : goal.decreases-loop-place
decreases-loop-place g l = length (places_left l.walk)
