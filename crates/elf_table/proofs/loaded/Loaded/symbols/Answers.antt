-- The faults of the table and of its strings are those of the symbols.
use Rattle.std.proofs.Common.{◌≡◌, false, true, ap, refl, sym, ◌∙◌}
use Rattle.std.proofs.lemmas.Result.{err_from_is_err_and}
use Rattle.elf_model.specs.Prelude.{section_at, strings_checks}
use Rattle.elf_table.specs.Sections.{strings}
use Rattle.elf_table.proofs.RelocationLaws.{strings_refused, symbols-refused, symbols_none, symbols_some, table_refused}
use Rattle.elf_table.proofs.loaded.Loaded.symbols.Goals as goal

pub returns-in_err-table-clause-held : goal.returns-in_err-table-clause-held
returns-in_err-table-clause-held g c = λ file belongs.
    let p = err_from_is_err_and c.from_residual.result c.from_residual.ensures.1 in
    let at = section_at file c.args.section in
    rw (p.1, p.2) (symbols-refused file at _ (table_refused true file at (strings_checks file at) _ (sym (c.in_err-table.ensures.held file belongs))))

pub returns-then-is_empty-clause-held : goal.returns-then-is_empty-clause-held
returns-then-is_empty-clause-held g c = λ file belongs.
    symbols_none file _ _ (sym (c.in_ok-table.ensures.held file belongs)) (c.if-is_empty.ensures.0 refl) _ (c.new-none.ensures ∙ ap (λ at. strings at 0) c.at.ensures)

pub returns-in_err-names-clause-held : goal.returns-in_err-names-clause-held
returns-in_err-names-clause-held g c = λ file belongs.
    let p = err_from_is_err_and c.from_residual-in_err-names.result c.from_residual-in_err-names.ensures.1 in
    rw (p.1, p.2)
    (symbols-refused file _ _ (strings_refused file _ _ (sym (c.in_ok-table.ensures.held file belongs)) _ (λ none. let e : false ≡ true = c.if-is_empty.ensures.1 none in cc) (sym (c.in_err-names.ensures.held file belongs))))

pub returns-clause-held : goal.returns-clause-held
returns-clause-held g c = λ file belongs.
    symbols_some file _ _ (sym (c.in_ok-table.ensures.held file belongs)) (λ none. let e : false ≡ true = c.if-is_empty.ensures.1 none in cc) _ (sym (c.in_ok-names.ensures.held file belongs))
