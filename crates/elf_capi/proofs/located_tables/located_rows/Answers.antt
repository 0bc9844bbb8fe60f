-- The load, and the table that is located then.
use Rattle.std.proofs.Common.{arith}
use Rattle.std.proofs.lemmas.Result.{err_from_is_err_and}
use Rattle.elf_table.proofs.LedgerLaws.{CallDid-as, CallReads-more}
use Rattle.elf_capi.proofs.LocatedLaws.{load_returns}
use Rattle.elf_capi.proofs.located_tables.located_rows.Goals as goal

pub returns-in_err-loaded-clause-did : goal.returns-in_err-loaded-clause-did
returns-in_err-loaded-clause-did g c =
    let p = err_from_is_err_and c.from_residual.result c.from_residual.ensures.1 in
    let slots = c.args.store.now.slots in
    rw (p.1, p.2)
    (CallDid-as _ (omega arith) c.in_err-loaded.ensures.did
    (λ file told costs none.
    let loads = told none in
    record { costs = CallReads-more _ (omega arith) loads.costs; tells = load_returns file slots c.args.table _ c.load_by_segments.new.store loads.loads }))
