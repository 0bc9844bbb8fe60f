-- The entries of the address, of the size, and of the rows.
use Rattle.std.proofs.Common.{◌≡◌, ℕ, ◌==◌, Option, None, Some, Result, true, false, refl, sym, ap, subst, ◌∙◌}
use Rattle.std.proofs.lemmas.Bool.{eq-eqb, ne_eqb}
use Rattle.elf_model.specs.DynamicRelocations.{LocatedTable, form_by, located_table, table_mapped, tags_of}
use Rattle.elf_model.specs.ImageChecks.{row_value}
use Rattle.elf_model.specs.declared.causes.Refusal.{Refusal}
use Rattle.elf_table.specs.Prelude.{TableRange}
use Rattle.elf_table.proofs.Absent.{none-of}
use Rattle.elf_hash.proofs.RelocationTableLaws.{empty_table, is_address, is_size, no_address, no_form, no_row, no_size, of_form}
use Rattle.elf_image.specs.Located.{MapsLocated}
use Rattle.elf_image.proofs.TableSteps.{address_value, maps_none, maps_refused}
use Rattle.elf_image.proofs.tables.checked_mapped_table.Goals as goal

pub returns-in_default-clause-maps : goal.returns-in_default-clause-maps
returns-in_default-clause-maps c = λ file at table form views are wide one.
    maps_none (located_table file at table) (row_value file at (tags_of table).address) c.args.entry c.empty_table.result
    (no_address file at table c.args.rows.now are (none-of _ c.in_default.not-Some)) (ap (λ (t : TableRange). t.count) c.empty_table.ensures)

pub returns-in_default-size-clause-maps : goal.returns-in_default-size-clause-maps
returns-in_default-size-clause-maps c = λ file at table form views are wide one.
    rw c.refused.ensures
    (maps_refused (located_table file at table) (row_value file at (tags_of table).address) c.args.entry _
    (no_size file at table c.args.rows.now are c.in-Some.address c.in-Some.is (none-of _ c.in_default-size.not-Some)))

pub returns-then-size-eq0-clause-maps : goal.returns-then-size-eq0-clause-maps
returns-then-size-eq0-clause-maps c = λ file at table form views are wide one.
    maps_none (located_table file at table) (row_value file at (tags_of table).address) c.args.entry c.empty_table-then-size-eq0.result
    (empty_table file at table c.args.rows.now are c.in-Some.address c.in-Some.is c.in-Some-size.size c.in-Some-size.is c.if-size-eq0.true)
    (ap (λ (t : TableRange). t.count) c.empty_table-then-size-eq0.ensures)

pub returns-in_default-row-clause-maps : goal.returns-in_default-row-clause-maps
returns-in_default-row-clause-maps c = λ file at table form views are wide one.
    rw c.refused-in_default-row.ensures
    (maps_refused (located_table file at table) (row_value file at (tags_of table).address) c.args.entry _
    (no_row file at table c.args.rows.now are c.in-Some.address c.in-Some.is c.in-Some-size.size c.in-Some-size.is c.if-size-eq0.false (none-of _ c.in_default-row.not-Some)))

pub returns-then-row-told-clause-maps : goal.returns-then-row-told-clause-maps
returns-then-row-told-clause-maps c = λ file at table form views are wide one.
    let other : (c.in-Some-row.row.value == c.args.told) ≡ false = ne_eqb c.in-Some-row.row.value c.args.told c.if-row-told.true in
    let none : form_by table c.in-Some-row.row.value ≡ None = one c.in-Some.address c.in-Some-row.row c.in-Some.is c.in-Some-row.is ∙ rw other refl in
    rw c.refused-then-row-told.ensures
    (maps_refused (located_table file at table) (row_value file at (tags_of table).address) c.args.entry _
    (no_form file at table c.args.rows.now are c.in-Some.address c.in-Some.is c.in-Some-size.size c.in-Some-size.is c.in-Some-row.row c.in-Some-row.is c.if-size-eq0.false none))

pub returns-clause-maps : goal.returns-clause-maps
returns-clause-maps c = λ file at table form views are wide one.
    let same : (c.in-Some-row.row.value == c.args.told) ≡ true = eq-eqb c.in-Some-row.row.value c.args.told c.if-row-told.false in
    let is : form_by table c.in-Some-row.row.value ≡ Some form = one c.in-Some.address c.in-Some-row.row c.in-Some.is c.in-Some-row.is ∙ rw same refl in
    let located = of_form file at table c.args.rows.now are c.in-Some.address c.in-Some.is c.in-Some-size.size c.in-Some-size.is c.in-Some-row.row c.in-Some-row.is c.if-size-eq0.false form is in
    let value = address_value file at (tags_of table).address c.in-Some.address (sym c.in-Some.is ∙ are.address) in
    let maps =
    c.mapped_rows.ensures.maps file form views (is_address file at table c.args.rows.now are c.in-Some.address c.in-Some.is)
    (is_size file at table c.args.rows.now are c.in-Some.address c.in-Some.is c.in-Some-size.size c.in-Some-size.is) wide in
    subst (λ (r : Result (Option LocatedTable) Refusal). MapsLocated r (row_value file at (tags_of table).address) c.args.entry c.mapped_rows.result) (sym located)
    (subst (λ (v : ℕ). MapsLocated (table_mapped file c.in-Some.address.at c.in-Some-size.size.at form) v c.args.entry c.mapped_rows.result) (sym value) maps)
