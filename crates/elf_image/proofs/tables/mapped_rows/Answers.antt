-- The size is one of whole rows, and a segment has them.
use Rattle.std.proofs.Common.{◌≡◌, ℕ, ◌/◌, ◌%◌, ◌<◌, Ok, refl, sym, ap, subst, ◌∙◌}
use Rattle.std.proofs.lemmas.Result.{err_from_is_err_and}
use Rattle.elf_model.specs.DynamicRelocations.{form_size, table_mapped}
use Rattle.elf_table.specs.Prelude.{TableRange}
use Rattle.elf_hash.proofs.RelocationTableLaws.{part_row, rows_found, rows_refused}
use Rattle.elf_image.specs.Located.{MapsLocated}
use Rattle.elf_image.specs.declared.tables.MappedTable.{MappedTable}
use Rattle.elf_image.proofs.TableSteps.{maps_fault, maps_found, maps_refused, some_rows}
use Rattle.elf_image.proofs.tables.mapped_rows.Goals as goal

pub returns-then-size-entry-ne0-clause-maps : goal.returns-then-size-entry-ne0-clause-maps
returns-then-size-entry-ne0-clause-maps c = λ file form views address size wide.
    let part = part_row file c.args.address.now c.args.size.now form address size (λ whole. c.if-size-entry-ne0.true (sym (ap (λ (n : ℕ). c.args.size.now.value % n) wide) ∙ whole)) in
    rw c.refused.ensures (maps_refused (table_mapped file c.args.address.now.at c.args.size.now.at form) c.args.address.now.value c.args.entry _ part)

pub returns-in_err-found-clause-maps : goal.returns-in_err-found-clause-maps
returns-in_err-found-clause-maps c = λ file form views address size wide.
    let p = err_from_is_err_and c.from_residual.result c.from_residual.ensures.1 in
    let whole = ap (λ (n : ℕ). c.args.size.now.value % n) wide ∙ c.if-size-entry-ne0.false in
    rw (p.1, p.2)
    (maps_fault (table_mapped file c.args.address.now.at c.args.size.now.at form) c.args.address.now.value c.args.entry _
    (rows_refused file c.args.address.now c.args.size.now form address size whole _ (c.in_err-found.ensures.held file views)))

pub returns-clause-maps : goal.returns-clause-maps
returns-clause-maps c = λ file form views address size wide.
    let whole = ap (λ (n : ℕ). c.args.size.now.value % n) wide ∙ c.if-size-entry-ne0.false in
    let rows = rw c.at.ensures.value at c.new.ensures in
    let is : c.new.result ≡ record { at = c.in_ok-found.found.at; count = c.args.size.now.value / form_size form; entry = form_size form } = rw wide rows in
    let found = rows_found file c.args.address.now c.args.size.now form address size whole c.in_ok-found.found c.new.result (c.in_ok-found.ensures.held file views) is in
    let some : 0 < c.new.result.count =
    subst (λ (n : ℕ). 0 < n) (sym (ap (λ (t : TableRange). t.count) rows)) (some_rows c.args.size.now.value c.args.entry c.requires.some c.requires.width.0 c.if-size-entry-ne0.false) in
    let mapped : MappedTable = record { address = c.args.address.now.value; rows = c.new.result } in
    subst (λ (n : ℕ). MapsLocated (table_mapped file c.args.address.now.at c.args.size.now.at form) c.args.address.now.value n (Ok mapped)) wide
    (maps_found (table_mapped file c.args.address.now.at c.args.size.now.at form) c.args.address.now.value form mapped found refl some)
