-- The table and the filter, one after the other.
use Rattle.elf_library.proofs.KeptLaws.{did_both}
use Rattle.elf_library.proofs.SpendLaws.{placed_of, ready_of}
use Rattle.elf_library.proofs.ready.ready_with_filter.Goals as goal

pub returns : goal.returns
returns g c =
    let ready = c.ready_table-ready.ensures in
    let did = did_both ready.did c.load_if.ensures in
    rw c.unwrap_or.ensures
    (record {
      did = record { costs = did.costs; known = λ file held. let both = did.known file held in ((λ told is. ready_of file told c.ready_table-ready.result (both.0 told is)), both.1) };
      placed = placed_of c.args.scope.now c.ready_table-ready.result ready.place;
    })
