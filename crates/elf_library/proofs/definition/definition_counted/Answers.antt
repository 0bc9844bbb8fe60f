-- The counts of the table, and the lookup in it.
use Rattle.std.proofs.Common.{ℕ, ap, ◌∙◌, arith}
use Rattle.std.proofs.lemmas.Result.{err_from_is_err_and}
use Rattle.elf_table.proofs.LedgerLaws.{CallDid-as, CallDid-then}
use Rattle.elf_loader.specs.Lookups.{lookup_bytes}
use Rattle.elf_options.specs.Wants.{query_of}
use Rattle.elf_hash.proofs.SymbolCountLaws.{few_counts, place_of}
use Rattle.elf_library.proofs.DefinerLaws.{defines_counted, defines_uncounted}
use Rattle.elf_library.proofs.definition.definition_counted.Goals as goal

pub returns-in_err-table-clause-did : goal.returns-in_err-table-clause-did
returns-in_err-table-clause-did g c =
    let p = err_from_is_err_and c.from_residual.result c.from_residual.ensures.1 in
    let few = few_counts c.args.scope.now.hash.kind in
    rw (p.1, p.2)
    (CallDid-as _ (omega (arith, few)) c.in_err-table.ensures.did
    (λ file counts costs told is are.
    defines_uncounted file told (query_of c.args.wanted.now) c.args.scope.now.hash.kind _ (costs _ (omega arith)) (counts told (place_of file told c.args.scope.now is))))

pub returns-clause-did : goal.returns-clause-did
returns-clause-did g c =
    let few = few_counts c.args.scope.now.hash.kind in
    let first = c.in_ok-table.ensures.did in
    let same = ap (λ (size : ℕ). lookup_bytes 12 size (query_of c.args.wanted.now)) first.costs.reads.keeps.same_size in
    CallDid-as _ (omega (arith, few, same)) (CallDid-then first c.definition_in_table.ensures.did)
    (λ file read costs told is are.
    let counts = read.0 told (place_of file told c.args.scope.now is) in
    defines_counted file told (query_of c.args.wanted.now) c.args.scope.now.hash.kind c.in_ok-table.table _ first.costs counts (read.1 told is counts.1 are))

pub returns-clause-kept : goal.returns-clause-kept
returns-clause-kept g c = record { keeps = λ file held. c.definition_in_table.ensures.kept.keeps file (c.in_ok-table.ensures.did.costs.reads.keeps.same_file ∙ held) }
