-- The entries, the symbols, their strings, then the version tables.
use Rattle.std.proofs.Common.{rules, ap, refl}
use Rattle.std.proofs.lemmas.Result.{err_from_is_err_and}
use Rattle.elf_table.specs.Tables.{TableRange}
use Rattle.elf_hash.proofs.LookupTableLaws.{names_told, strings_refuse, symbols_missing, symbols_refuse, symbols_settle, versions_refuse}
use Rattle.elf_table.proofs.Absent.{none-of}
use Rattle.elf_hash.proofs.SettleLaws.{finds, refuses}
use Rattle.elf_hash.proofs.segment_symbols.segment_symbols.Goals as goal

pub returns-in_default : goal.returns-in_default
returns-in_default c =
    rw c.refused.ensures
    (refuses _ (λ budget. cc) (λ bytes views at are.
    let told = rw (none-of c.symbol_entries.result c.in_default.not-Some) at c.symbol_entries.ensures in
    symbols_missing bytes at c.args.row c.args.found.now are told))

pub returns-in_err-rest : goal.returns-in_err-rest
returns-in_err-rest c =
    let p = err_from_is_err_and c.from_residual.result c.from_residual.ensures.1 in
    rw (p.1, p.2) (refuses _ c.in_err-rest.ensures.lies (λ bytes views at are.
    let told = rw c.in-Some.is at c.symbol_entries.ensures in
    (symbols_refuse bytes at c.args.row c.args.found.now _ _ _ are told _ (c.in_err-rest.ensures.value bytes views))))

pub returns-in_err-names : goal.returns-in_err-names
returns-in_err-names c =
    let p = err_from_is_err_and c.from_residual-in_err-names.result c.from_residual-in_err-names.ensures.1 in
    rw (p.1, p.2) (refuses _ c.in_err-names.ensures.refusal (λ bytes views at are.
    let told = rw c.in-Some.is at c.symbol_entries.ensures in
    (strings_refuse bytes at c.args.row c.args.found.now _ _ _ are told _ (c.in_ok-rest.ensures.value bytes views) _ (c.in_err-names.ensures.held bytes views))))

pub returns-in_err-versions : goal.returns-in_err-versions
returns-in_err-versions c =
    let p = err_from_is_err_and c.from_residual-in_err-versions.result c.from_residual-in_err-versions.ensures.1 in
    rw (p.1, p.2) (refuses _ c.in_err-versions.ensures.refusal (λ bytes views at are.
    let told = rw c.in-Some.is at c.symbol_entries.ensures in
    let rest = c.in_ok-rest.ensures.value bytes views in
    let names = c.in_ok-names.ensures.held bytes views in
    (versions_refuse bytes at c.args.row c.args.found.now _ _ _ are told _ rest _ names _
    (c.in_err-versions.ensures.held bytes views at are (names_told bytes at c.args.row c.args.found.now _ _ _ are told _ rest _ names)))))

pub returns : goal.returns
returns c = finds _ (search rules) (λ bytes views at are.
    let told = rw c.in-Some.is at c.symbol_entries.ensures in
    let rest = c.in_ok-rest.ensures.value bytes views in
    let names = c.in_ok-names.ensures.held bytes views in
    let row = c.rows_in.ensures in
    symbols_settle bytes at c.args.row c.args.found.now _ _ _ are told _ rest _ names c.args.segment _ c.in_ok-versions.versions
    (c.in_ok-versions.ensures.held bytes views at are (names_told bytes at c.args.row c.args.found.now _ _ _ are told _ rest _ names))
    refl (ap (λ (t : TableRange). t.at) row) (ap (λ (t : TableRange). t.count) row) refl refl refl refl)
