-- The rest of the segment that has the symbols, then the bytes of their names.
use Rattle.std.proofs.Common.{rules, refl}
use Rattle.std.proofs.lemmas.Result.{err_from_is_err_and}
use Rattle.elf_table.proofs.Absent.{none-of}
use Rattle.elf_hash.proofs.RelocationTableLaws.{names_refuse, symbols_found, symbols_none, symbols_refuse}
use Rattle.elf_hash.proofs.SettleLaws.{finds, refuses}
use Rattle.elf_hash.proofs.relocation_tables.located_symbols.Goals as goal

pub returns-in_default : goal.returns-in_default
returns-in_default c = finds _ tt (λ bytes views at are.
    let told = rw (none-of c.symbol_entries.result c.in_default.not-Some) at c.symbol_entries.ensures in
    symbols_none bytes at c.args.found.now are told)

pub returns-in_err-rest : goal.returns-in_err-rest
returns-in_err-rest c =
    let p = err_from_is_err_and c.from_residual.result c.from_residual.ensures.1 in
    rw (p.1, p.2) (refuses _ c.in_err-rest.ensures.lies (λ bytes views at are.
    let told = rw c.in-Some.is at c.symbol_entries.ensures in
    symbols_refuse bytes at c.args.found.now _ _ _ are told _ (c.in_err-rest.ensures.value bytes views)))

pub returns-in_err-names : goal.returns-in_err-names
returns-in_err-names c =
    let p = err_from_is_err_and c.from_residual-in_err-names.result c.from_residual-in_err-names.ensures.1 in
    rw (p.1, p.2) (refuses _ c.in_err-names.ensures.refusal (λ bytes views at are.
    let told = rw c.in-Some.is at c.symbol_entries.ensures in
    names_refuse bytes at c.args.found.now _ _ _ are told _ (c.in_ok-rest.ensures.value bytes views) _ (c.in_err-names.ensures.held bytes views)))

pub returns : goal.returns
returns c = finds _ (search rules) (λ bytes views at are.
    let told = rw c.in-Some.is at c.symbol_entries.ensures in
    symbols_found bytes at c.args.found.now _ _ _ are told _ (c.in_ok-rest.ensures.value bytes views) _ _ (c.in_ok-names.ensures.held bytes views) c.rows_in.ensures)
