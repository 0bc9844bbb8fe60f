-- No section so far has the offset.
use Rattle.elf_listing.proofs.FaultRowSearch.{NoSectionBefore}
use Rattle.elf_listing.proofs.fault_rows.row_in_tables.Given as goal

abbrev pub invariant-loop-index : goal.invariant-loop-index
invariant-loop-index l = NoSectionBefore l.store l.at l.index
