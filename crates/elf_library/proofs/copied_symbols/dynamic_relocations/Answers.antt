-- The load, and what follows.
use Rattle.std.proofs.Common.{arith}
use Rattle.std.proofs.lemmas.Result.{err_from_is_err_and}
use Rattle.elf_table.proofs.LedgerLaws.{CallReads-more, CallReads-then}
use Rattle.elf_library.proofs.copied_symbols.dynamic_relocations.Goals as goal

pub returns-in_err-loaded-clause-costs : goal.returns-in_err-loaded-clause-costs
returns-in_err-loaded-clause-costs g c =
    let p = err_from_is_err_and c.from_residual.result c.from_residual.ensures.1 in
    rw (p.1, p.2) (CallReads-more _ (omega arith) c.in_err-loaded.ensures.did.costs)

pub returns-clause-costs : goal.returns-clause-costs
returns-clause-costs g c =
    let first = c.in_ok-loaded.ensures.did.costs in
    CallReads-then _ (omega (arith, first.reads.keeps.same_size)) first c.relocations_in.ensures
