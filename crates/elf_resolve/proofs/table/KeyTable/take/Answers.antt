use Rattle.std.proofs.Common.{sym, ap, ◌∙◌}
use Rattle.std.proofs.lemmas.Result.{err_from_is_err_and}
use Rattle.elf_resolve.specs.Symbols.{name_of_symbol_in, symbol_record}
use Rattle.elf_resolve.proofs.SymbolLaws.{ends_as, ends_at_first, first_alone, first_not_used, second_not_used, second_used}
use Rattle.elf_resolve.proofs.table.KeyTable.take.Goals as goal

pub returns-in_err-use_name : goal.returns-in_err-use_name
returns-in_err-use_name c =
    let p = err_from_is_err_and c.from_residual.result c.from_residual.ensures.1 in
    rw (p.1, p.2) (first_not_used _ _ (symbol_record c.args.symbol) _ c.in_err-use_name.ensures)

pub returns-in_default : goal.returns-in_default
returns-in_default c = first_alone _ _ _ c.args.row (ap name_of_symbol_in c.in_default.is) c.in_ok-use_name.ensures

pub returns-then-ends_at : goal.returns-then-ends_at
returns-then-ends_at c =
    ends_at_first _ _ _ c.args.row c.in-Some.name.now (ap name_of_symbol_in c.in-Some.is)
    (ends_as _ (symbol_record c.args.symbol) _ _ c.entry_named-entry.ensures c.prepared.ensures ∙ sym c.ends_at.ensures ∙ c.if-ends_at.true) c.in_ok-use_name.ensures

pub returns : goal.returns
returns c =
    second_used _ _ _ _ c.args.row c.in-Some.name.now (ap name_of_symbol_in c.in-Some.is)
    (ends_as _ (symbol_record c.args.symbol) _ _ c.entry_named-entry.ensures c.prepared.ensures ∙ sym c.ends_at.ensures ∙ c.if-ends_at.false) c.in_ok-use_name.ensures c.in_ok-use_name-2.ensures

pub returns-in_err-use_name-2 : goal.returns-in_err-use_name-2
returns-in_err-use_name-2 c =
    let p = err_from_is_err_and c.from_residual-in_err-use_name-2.result c.from_residual-in_err-use_name-2.ensures.1 in
    rw (p.1, p.2) (second_not_used _ _ _ (symbol_record c.args.symbol) c.args.row c.in-Some.name.now _ (ap name_of_symbol_in c.in-Some.is) c.in_ok-use_name.ensures c.in_err-use_name-2.ensures)
