-- The lines of the objects before this one are written.
use Rattle.std.proofs.Common.{◌≡◌, drop, length}
use Rattle.elf_needs.specs.ObjectLines.{places_in_order}
use Rattle.elf_needs.proofs.ObjectLineLaws.{WritesPlaces}
use Rattle.elf_needs.proofs.object_lines.list_in_order.Given as goal

abbrev pub invariant-loop-index : goal.invariant-loop-index
invariant-loop-index g l = record {
  end : l.index-end ≡ length l.objects.known.items;
  writes : WritesPlaces l.lines l.objects l.program (places_in_order 0 l.objects.known.items) (places_in_order l.index (drop l.index l.objects.known.items)) l.fn.out l.out;
}
