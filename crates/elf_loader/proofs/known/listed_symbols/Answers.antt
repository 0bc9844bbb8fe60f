-- The tables that a lookup searches, if there is a hash table, and then its counts.
use Rattle.std.proofs.Common.{arith}
use Rattle.std.proofs.lemmas.Result.{err_from_is_err_and}
use Rattle.elf_table.proofs.LedgerLaws.{CallReads-more, CallReads-then, CallDid-as, CallDid-then}
use Rattle.elf_loader.proofs.KnownLaws.{counted_known, counts_refused, counts_within, counts_most, its_place, passed_charges, passed_did, passed_tells}
use Rattle.elf_loader.proofs.known.listed_symbols.Goals as goal

pub returns-in-Err-clause-did : goal.returns-in-Err-clause-did
returns-in-Err-clause-did g c =
    rw c.without_hash.ensures
    (CallDid-as _ (omega arith) (passed_did _ c.in-Err.ensures.did)
    (λ file told costs views index some.
    let found = told views in
    record { costs = CallReads-more _ (omega arith) (passed_charges _ found.0); finds = passed_tells file index some _ found.1 }))

pub returns-in_err-table-clause-did : goal.returns-in_err-table-clause-did
returns-in_err-table-clause-did g c =
    let p = err_from_is_err_and c.from_residual.result c.from_residual.ensures.1 in
    let first = c.in-Ok.ensures.did in
    let most = counts_most c.in-Ok.scope.hash.kind in
    rw (p.1, p.2)
    (CallDid-as _ (omega (arith, most)) (CallDid-then first c.in_err-table.ensures.did)
    (λ file told costs views index some.
    let found = told.0 views in
    let scope = found.1 in
    let within = counts_within file index some scope.0 _ scope.1 scope.2 in
    record {
      costs = CallReads-then _ (omega (arith, within)) found.0 c.in_err-table.ensures.did.costs;
      finds = counts_refused file index some scope.0 _ scope.1 scope.2 _ (told.1 scope.0 (its_place file index some scope.0 _ scope.1 scope.2));
    }))

pub returns-clause-did : goal.returns-clause-did
returns-clause-did g c =
    let first = c.in-Ok.ensures.did in
    let most = counts_most c.in-Ok.scope.hash.kind in
    CallDid-as _ (omega (arith, most)) (CallDid-then first c.in_ok-table.ensures.did)
    (λ file told costs views index some.
    let found = told.0 views in
    let scope = found.1 in
    let within = counts_within file index some scope.0 _ scope.1 scope.2 in
    record {
      costs = CallReads-then _ (omega (arith, within)) found.0 c.in_ok-table.ensures.did.costs;
      finds = counted_known file index some scope.0 _ scope.1 scope.2 _ (told.1 scope.0 (its_place file index some scope.0 _ scope.1 scope.2));
    })
