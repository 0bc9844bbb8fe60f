-- The size is one of whole rows, and a segment has them.
use Rattle.std.proofs.Common.{rules, refl, sym, ◌∙◌, ap}
use Rattle.std.proofs.lemmas.Result.{err_from_is_err_and}
use Rattle.elf_hash.proofs.RelocationTableLaws.{part_row, rows_found, rows_refused}
use Rattle.elf_hash.specs.Prelude.{located_by}
use Rattle.elf_hash.proofs.SettleLaws.{finds, refuses}
use Rattle.elf_hash.proofs.relocation_tables.mapped_table.Goals as goal

pub returns-then-size-row-ne0 : goal.returns-then-size-row-ne0
returns-then-size-row-ne0 c =
    rw c.refused.ensures
    (refuses _ (λ budget. cc) (λ bytes views a z. sym (ap located_by (part_row bytes _ _ _ a z (rw c.row_bytes-row.ensures at c.if-size-row-ne0.true)))))

pub returns-in_err-names : goal.returns-in_err-names
returns-in_err-names c =
    let p = err_from_is_err_and c.from_residual.result c.from_residual.ensures.1 in
    rw (p.1, p.2) (refuses _ c.in_err-names.ensures.refusal (λ bytes views a z.
    rows_refused bytes _ _ _ a z (rw c.row_bytes-row.ensures at c.if-size-row-ne0.false) _ (c.in_err-names.ensures.held bytes views)))

pub returns : goal.returns
returns c = finds _ (search rules) (λ bytes views a z.
    rows_found bytes _ _ _ a z (rw c.row_bytes-row.ensures at c.if-size-row-ne0.false) _ _ (c.in_ok-names.ensures.held bytes views) (rw (c.row_bytes-row.ensures, c.at.ensures.value) at c.new-table.ensures))
