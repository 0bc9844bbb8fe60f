-- The read of the type within what is left of a budget.
use Rattle.std.proofs.Common.{of_calls}
use Rattle.elf_walk.proofs.LinePrefixLaws.{type_asked, type_found, type_within}
use Rattle.elf_walk.proofs.line_prefixes.find_file_type.Goals as goal

pub returns-clause-finds : goal.returns-clause-finds
returns-clause-finds g c =
    let reads = c.charge.ensures.reads in
    type_found c.args.members reads.sets reads.frees (search of_calls)

pub returns-clause-within : goal.returns-clause-within
returns-clause-within g c =
    let reads = c.charge.ensures.reads in
    type_within c.args.members {result = c.charge.result} reads.sets reads.frees (search of_calls)

pub returns-clause-asks : goal.returns-clause-asks
returns-clause-asks g c =
    let reads = c.charge.ensures.reads in
    type_asked c.args.members {result = c.charge.result} reads.sets reads.frees (search of_calls)
