-- The lookup tables, and the count of their symbols.
use Rattle.std.proofs.Common.{ap, arith}
use Rattle.std.proofs.lemmas.Result.{err_from_is_err_and}
use Rattle.elf_table.proofs.LedgerLaws.{CallReads-more, CallDid-as, CallDid-then}
use Rattle.elf_capi.proofs.HashedLaws.{places_hashed, costs_counted, counted, rows_within, uncounted, unscoped}
use Rattle.elf_capi.specs.Prelude.{hashed_cost}
use Rattle.elf_capi.specs.declared.rows.RowPosition.{RowPosition}
use Rattle.elf_capi.proofs.hashed_symbols.hashed_rows.Goals as goal

pub returns-in_err-scope-clause-did : goal.returns-in_err-scope-clause-did
returns-in_err-scope-clause-did g c =
    let p = err_from_is_err_and c.from_residual.result c.from_residual.ensures.1 in
    let slots = c.args.store.now.slots in
    rw (p.1, p.2)
    (CallDid-as _ (omega arith) c.in_err-scope.ensures.did
    (λ file found costs. record { costs = CallReads-more (hashed_cost file slots) (omega arith) found.costs; tells = unscoped file slots _ found.finds }))

pub returns-in_err-count-clause-did : goal.returns-in_err-count-clause-did
returns-in_err-count-clause-did g c =
    let p = err_from_is_err_and c.from_residual-in_err-count.result c.from_residual-in_err-count.ensures.1 in
    let slots = c.args.store.now.slots in
    let lies = c.in_ok-scope.ensures.within.table in
    rw (p.1, p.2)
    (CallDid-as _ (omega (arith, lies)) (CallDid-then c.in_ok-scope.ensures.did c.in_err-count.ensures.did)
    (λ file read costs.
    let found = read.0.finds in
    let counts = read.1 found.0 found.2 in
    record { costs = costs_counted file slots found.0 found.1 read.0.costs counts.costs; tells = uncounted file slots found.0 found.1 _ counts.tells }))

pub returns-clause-did : goal.returns-clause-did
returns-clause-did g c =
    let scope = c.in_ok-scope.scope in
    let slots = c.args.store.now.slots in
    let lies = c.in_ok-scope.ensures.within.table in
    CallDid-as _ (omega (arith, lies)) (CallDid-then c.in_ok-scope.ensures.did c.in_ok-count.ensures.did)
    (λ file read costs.
    let found = read.0.finds in
    let counts = read.1 found.0 found.2 in
    record {
      costs = costs_counted file slots found.0 found.1 read.0.costs counts.costs;
      tells = counted file slots found.0 found.1 c.in_ok-count.count c.rows_of.result counts.tells
          (places_hashed file slots found.0 scope c.in_ok-count.count c.rows_of.result found.2.symbols c.in_ok-count.ensures.few c.rows_of.ensures);
    })

pub returns-clause-within : goal.returns-clause-within
returns-clause-within g c = λ some.
    let at = ap (λ (r : RowPosition). r.at) c.rows_of.ensures in
    let count = ap (λ (r : RowPosition). r.count) c.rows_of.ensures in
    let few = c.in_ok-count.ensures.few in
    let all = c.in_ok-scope.ensures.within.symbols.table (omega (arith, some, count, few)) in
    rows_within c.in_ok-scope.scope c.rows_of.result.at c.rows_of.result.count c.args.src.now.seen.size at (omega (arith, count, few)) all
