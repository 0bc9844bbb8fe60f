-- The counts of the table, and what its words give.
use Rattle.std.proofs.Common.{◌+◌, ap, ◌∙◌, arith}
use Rattle.std.proofs.lemmas.Result.{err_from_is_err_and}
use Rattle.elf_hash.specs.Prelude.{extent_bytes}
use Rattle.elf_hash.specs.declared.place.HashTableLocation.{HashTableLocation}
use Rattle.elf_table.proofs.LedgerLaws.{CallDid-as, CallDid-then}
use Rattle.elf_hash.proofs.SymbolCountLaws.{costs_counted, few_counts, place_of, told_count, uncounted}
use Rattle.elf_hash.proofs.lookup_tables.LookupTables.symbol_count.Goals as goal

pub returns-in_err-table-clause-did : goal.returns-in_err-table-clause-did
returns-in_err-table-clause-did g c =
    let p = err_from_is_err_and c.from_residual.result c.from_residual.ensures.1 in
    let few = few_counts c.args.self.now.hash.kind in
    rw (p.1, p.2)
    (CallDid-as _ (omega (arith, few)) c.in_err-table.ensures.did
    (λ file counts costs told is.
    record { costs = costs (16 + extent_bytes file told) (omega (arith, few)); tells = uncounted file told _ (counts told (place_of file told c.args.self.now is)) }))

pub returns-clause-did : goal.returns-clause-did
returns-clause-did g c =
    let few = few_counts c.args.self.now.hash.kind in
    let size = ap (λ (h : HashTableLocation). h.size) c.in_ok-table.ensures.same in
    let symbols = ap (λ (h : HashTableLocation). h.symbols) c.in_ok-table.ensures.same in
    CallDid-as _ (omega (arith, few, size)) (CallDid-then c.in_ok-table.ensures.did c.extent.ensures.did)
    (λ file read costs told is.
    let counts = read.0 told (place_of file told c.args.self.now is) in
    let words = read.1 told counts.1 is.symbols in
    record {
      costs = costs_counted file told c.args.self.now.hash.kind c.in_ok-table.ensures.did.costs words.costs;
      tells = told_count file told c.extent.result c.args.self.now.symbols.table.count counts.0 words.tells c.extent.ensures.few (c.requires.count ∙ is.count);
    })
