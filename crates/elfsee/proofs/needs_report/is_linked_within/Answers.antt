-- The headers are read while a limit is set.
use Rattle.std.proofs.Common.{of_calls}
use Rattle.elf_source.proofs.LimitLaws.{within_budget}
use Rattle.elfsee.proofs.needs_report.is_linked_within.Goals as goal

pub returns-clause-asks : goal.returns-clause-asks
returns-clause-asks g c =
    let reads = c.within.ensures in
    let same = reads.frees.asked in
    record { within = rw same (within_budget c.args.budget c.args.src.now reads.before reads.after reads.sets (search of_calls)) }
