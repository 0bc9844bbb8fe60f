-- The fault is found within the limit that is set.
use Rattle.std.proofs.Common.{of_calls}
use Rattle.elf_archive.proofs.WithinLaws.{fault_asked, fault_cost, fault_found, fault_leaves, fault_says}
use Rattle.elf_archive.proofs.first_fault.find_fault.Goals as goal

pub returns-clause-finds : goal.returns-clause-finds
returns-clause-finds g c =
    let reads = c.within.ensures in
    fault_found c.args.caps c.args.parts.0 reads.sets reads.frees c.requires.small (search of_calls)

pub returns-clause-says : goal.returns-clause-says
returns-clause-says g c =
    let reads = c.within.ensures in
    fault_says c.args.caps c.args.parts.0 reads.sets reads.frees c.requires.small (search of_calls)

pub returns-clause-asks : goal.returns-clause-asks
returns-clause-asks g c =
    let reads = c.within.ensures in
    fault_asked c.args.caps c.args.parts.0 reads.sets reads.frees c.requires.small (search of_calls)

pub returns-clause-leaves : goal.returns-clause-leaves
returns-clause-leaves g c =
    let reads = c.within.ensures in
    fault_leaves c.args.caps c.args.parts.0 reads.sets reads.frees c.requires.small {result = c.within.result} (search of_calls)

pub returns-clause-cost : goal.returns-clause-cost
returns-clause-cost g c =
    let reads = c.within.ensures in
    fault_cost c.args.caps c.args.parts.0 reads.sets reads.frees c.requires.small {result = c.within.result} (search of_calls)
