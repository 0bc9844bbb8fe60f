-- The counts, the records of versions, and the ends of their strings.
use Rattle.std.proofs.Common.{arith}
use Rattle.std.proofs.lemmas.Result.{err_from_is_err_and}
use Rattle.elf_table.proofs.LedgerLaws.{CallDid-as, CallDid-then}
use Rattle.elf_loader.proofs.ReadLaws.{most_all}
use Rattle.elf_loader.specs.Tables.{max_versions_of}
use Rattle.elf_hash.proofs.SymbolCountLaws.{few_counts, place_of}
use Rattle.elf_library.proofs.ReadyLaws.{ready_where, ready_within}
use Rattle.elf_library.proofs.ready.ready_table.Goals as goal

pub returns-in_err-table-clause-did : goal.returns-in_err-table-clause-did
returns-in_err-table-clause-did g c =
    let p = err_from_is_err_and c.from_residual.result c.from_residual.ensures.1 in
    let few = few_counts c.args.scope.now.hash.kind in
    let most = ready_within c.args.src.now.seen.size _ 0 few (omega arith) in
    rw (p.1, p.2) (CallDid-as _ (omega (arith, most)) c.in_err-table.ensures.did (λ file told costs scope is. tt))

pub returns-in_err-_numbers-clause-did : goal.returns-in_err-_numbers-clause-did
returns-in_err-_numbers-clause-did g c =
    let p = err_from_is_err_and c.from_residual-in_err-_numbers.result c.from_residual-in_err-_numbers.ensures.1 in
    let few = few_counts c.args.scope.now.hash.kind in
    let most = ready_within c.args.src.now.seen.size _ (max_versions_of c.args.scope.now.symbols) few (most_all c.args.scope.now.symbols c.args.src.now.seen.size c.requires.symbols) in
    rw (p.1, p.2)
    (CallDid-as _ (omega (arith, most)) (CallDid-then c.in_ok-table.ensures.did c.in_err-_numbers.ensures) (λ file told costs scope is. tt))

pub returns-in_err-definitions_end-clause-did : goal.returns-in_err-definitions_end-clause-did
returns-in_err-definitions_end-clause-did g c =
    let p = err_from_is_err_and c.from_residual-in_err-definitions_end.result c.from_residual-in_err-definitions_end.ensures.1 in
    let few = few_counts c.args.scope.now.hash.kind in
    let most = ready_within c.args.src.now.seen.size _ (max_versions_of c.args.scope.now.symbols) few (most_all c.args.scope.now.symbols c.args.src.now.seen.size c.requires.symbols) in
    rw (p.1, p.2)
    (CallDid-as _ (omega (arith, most)) (CallDid-then (CallDid-then c.in_ok-table.ensures.did c.in_ok-_numbers.ensures) c.in_err-definitions_end.ensures) (λ file told costs scope is. tt))

pub returns-in_err-needs_end-clause-did : goal.returns-in_err-needs_end-clause-did
returns-in_err-needs_end-clause-did g c =
    let p = err_from_is_err_and c.from_residual-in_err-needs_end.result c.from_residual-in_err-needs_end.ensures.1 in
    let few = few_counts c.args.scope.now.hash.kind in
    let most = ready_within c.args.src.now.seen.size _ (max_versions_of c.args.scope.now.symbols) few (most_all c.args.scope.now.symbols c.args.src.now.seen.size c.requires.symbols) in
    rw (p.1, p.2)
    (CallDid-as _ (omega (arith, most)) (CallDid-then (CallDid-then (CallDid-then c.in_ok-table.ensures.did c.in_ok-_numbers.ensures) c.in_ok-definitions_end.ensures) c.in_err-needs_end.ensures) (λ file told costs scope is. tt))

pub returns-clause-did : goal.returns-clause-did
returns-clause-did g c =
    let few = few_counts c.args.scope.now.hash.kind in
    let most = ready_within c.args.src.now.seen.size _ (max_versions_of c.args.scope.now.symbols) few (most_all c.args.scope.now.symbols c.args.src.now.seen.size c.requires.symbols) in
    CallDid-as _ (omega (arith, most)) (CallDid-then (CallDid-then (CallDid-then c.in_ok-table.ensures.did c.in_ok-_numbers.ensures) c.in_ok-definitions_end.ensures) c.in_ok-needs_end.ensures)
    (λ file told costs scope is.
    let counts = told.0.0.0 scope (place_of file scope c.args.scope.now is) in
    let fine = told.0.0.1 scope is.symbols in
    rw c.table_where.ensures (ready_where file scope c.args.scope.now _ is _ _ counts.0 counts.1 fine.1 told.0.1 told.1))
