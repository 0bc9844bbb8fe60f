-- No segment so far has the offset.
use Rattle.elf_listing.proofs.FaultRowSearch.{NoSegmentBefore}
use Rattle.elf_listing.proofs.fault_rows.row_in_segments.Given as goal

abbrev pub invariant-loop-index : goal.invariant-loop-index
invariant-loop-index l = NoSegmentBefore l.store l.at l.index
