-- No symbols are known, or the number of symbols, and their traits.
use Rattle.std.proofs.Common.{ℕ, ◌-◌, ◌*◌, ◌≤◌, ap, arith}
use Rattle.std.proofs.lemmas.Result.{err_from_is_err_and}
use Rattle.elf_table.proofs.LedgerLaws.{CallReads-more, CallReads-then, CallDid-as, CallDid-none, CallDid-then}
use Rattle.elf_table.proofs.Absent.{none-of}
use Rattle.elf_hash.specs.SearchedTables.{place_of_table}
use Rattle.elf_loader.proofs.FindingLaws.{marks_none, marks_some, rest_asked, rows_most}
use Rattle.elf_loader.proofs.MarkLaws.{marks_as, read_symbol_traits}
use Rattle.elf_loader.proofs.hardening.counted_symbol_traits.Goals as goal

pub returns-in_default : goal.returns-in_default
returns-in_default g c =
    let none = none-of _ c.in_default.not-Some in
    CallDid-as _ (omega arith) (CallDid-none c.args.src.now)
    (λ file told costs known. record { costs = costs _ (omega arith); finds = marks_none file (rw none at known) _ c.no_symbol_traits.ensures })

pub returns-in_err-count : goal.returns-in_err-count
returns-in_err-count g c =
    let p = err_from_is_err_and c.from_residual.result c.from_residual.ensures.1 in
    let lies = rw c.in-Some.is at c.requires in
    rw (p.1, p.2)
    (CallDid-as _ (omega (arith, lies.table)) c.in_err-count.ensures.did
    (λ file told costs known.
    let are = rw c.in-Some.is at known in
    let extent = told are.scope are.table are.symbols in
    let asked = rest_asked file are.scope are.told in
    record { costs = CallReads-more _ (omega (arith, asked)) extent.costs; finds = read_symbol_traits _ _ extent.tells }))

pub returns : goal.returns
returns g c =
    let lies = rw c.in-Some.is at c.requires in
    let below = c.in_ok-count.ensures.few in
    let few : c.in_ok-count.count ≤ (place_of_table c.in-Some.known.table).symbols = omega (arith, below, lies.count) in
    let most = rows_most c.in-Some.known c.args.src.now.seen.size c.in_ok-count.count lies few in
    let same = c.in_ok-count.ensures.did.costs.reads.keeps.same_size in
    CallDid-as _ (omega (arith, lies.table, most)) (CallDid-then c.in_ok-count.ensures.did c.find_symbol_traits.ensures)
    (λ file told costs known.
    let are = rw c.in-Some.is at known in
    let extent = told.0 are.scope are.table are.symbols in
    let marks = told.1 are.scope.symbols are.symbols in
    let asked = rest_asked file are.scope are.told in
    let count = ap (λ (n : ℕ). (n - 1) * 88) extent.tells in
    record {
      costs = CallReads-then _ (omega (arith, asked, count)) extent.costs c.find_symbol_traits.ensures.costs;
      finds = marks_as _ _ _ (marks_some file are.scope are.told c.in_ok-count.count extent.tells) marks;
    })
