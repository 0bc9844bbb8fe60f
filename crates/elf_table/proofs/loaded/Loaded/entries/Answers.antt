-- The faults of the table and of what it is linked to are those of the relocation entries.
use Rattle.std.proofs.Common.{◌≡◌, false, true, refl, sym}
use Rattle.std.proofs.lemmas.Result.{err_from_is_err_and}
use Rattle.elf_model.specs.Prelude.{linked_table_checks, section_at}
use Rattle.elf_table.proofs.RelocationLaws.{back_refused, relocations_none, relocations_some, table_refused}
use Rattle.elf_table.proofs.loaded.Loaded.entries.Goals as goal

pub returns-in_err-table-clause-held : goal.returns-in_err-table-clause-held
returns-in_err-table-clause-held g c = λ file belongs.
    let p = err_from_is_err_and c.from_residual.result c.from_residual.ensures.1 in
    let at = section_at file c.args.section in
    rw (p.1, p.2) (table_refused c.args.addends file at (linked_table_checks file at) _ (sym (rw c.relocation_bytes.ensures.size at (c.in_err-table.ensures.held file belongs))))

pub returns-then-is_empty-clause-held : goal.returns-then-is_empty-clause-held
returns-then-is_empty-clause-held g c = λ file belongs.
    relocations_none c.args.addends file _ _ (sym (rw c.relocation_bytes.ensures.size at (c.in_ok-table.ensures.held file belongs))) (c.if-is_empty.ensures.0 refl)

pub returns-in_err-linked-clause-held : goal.returns-in_err-linked-clause-held
returns-in_err-linked-clause-held g c = λ file belongs.
    let p = err_from_is_err_and c.from_residual-in_err-linked.result c.from_residual-in_err-linked.ensures.1 in
    rw (p.1, p.2) (back_refused c.args.addends file _ _ (sym (rw c.relocation_bytes.ensures.size at (c.in_ok-table.ensures.held file belongs))) _ _ (λ none. let e : false ≡ true = c.if-is_empty.ensures.1 none in cc) (c.in_err-linked.ensures.held file belongs))

pub returns-clause-held : goal.returns-clause-held
returns-clause-held g c = λ file belongs.
    relocations_some c.args.addends file _ _ (sym (rw c.relocation_bytes.ensures.size at (c.in_ok-table.ensures.held file belongs))) _ (λ none. let e : false ≡ true = c.if-is_empty.ensures.1 none in cc) (c.in_ok-linked.ensures.held file belongs)
