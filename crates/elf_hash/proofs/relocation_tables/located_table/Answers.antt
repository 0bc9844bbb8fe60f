-- The entries of the address, of the size, and of the rows.
use Rattle.std.proofs.Common.{rules, refl, sym, ◌∙◌, ap}
use Rattle.elf_table.proofs.Absent.{none-of}
use Rattle.elf_hash.specs.Prelude.{located_by}
use Rattle.elf_hash.proofs.RelocationTableLaws.{empty_table, is_address, is_size, no_address, no_form, no_row, no_size, of_form}
use Rattle.elf_hash.proofs.SettleLaws.{finds, refuses}
use Rattle.elf_hash.proofs.relocation_tables.located_table.Goals as goal

pub returns-in_default : goal.returns-in_default
returns-in_default c = finds _ tt (λ bytes views at are.
    let entries = c.table_entries-entries.ensures bytes at are in
    sym (ap located_by (no_address bytes at _ _ entries (none-of _ c.in_default.not-Some))))

pub returns-in_default-size : goal.returns-in_default-size
returns-in_default-size c =
    rw c.refused.ensures
    (refuses _ (λ budget. cc) (λ bytes views at are.
    let entries = c.table_entries-entries.ensures bytes at are in
    sym (ap located_by (no_size bytes at _ _ entries _ c.in-Some.is (none-of _ c.in_default-size.not-Some)))))

pub returns-then-size-eq0 : goal.returns-then-size-eq0
returns-then-size-eq0 c = finds _ tt (λ bytes views at are.
    let entries = c.table_entries-entries.ensures bytes at are in
    sym (ap located_by (empty_table bytes at _ _ entries _ c.in-Some.is _ c.in-Some-size.is c.if-size-eq0.true)))

pub returns-in_default-row : goal.returns-in_default-row
returns-in_default-row c =
    rw c.refused-in_default-row.ensures
    (refuses _ (λ budget. cc) (λ bytes views at are.
    let entries = c.table_entries-entries.ensures bytes at are in
    sym (ap located_by (no_row bytes at _ _ entries _ c.in-Some.is _ c.in-Some-size.is c.if-size-eq0.false (none-of _ c.in_default-row.not-Some)))))

pub returns-in_default-form_by : goal.returns-in_default-form_by
returns-in_default-form_by c =
    rw c.refused-in_default-form_by.ensures
    (refuses _ (λ budget. cc) (λ bytes views at are.
    let entries = c.table_entries-entries.ensures bytes at are in
    sym (ap located_by (no_form bytes at _ _ entries _ c.in-Some.is _ c.in-Some-size.is _ c.in-Some-row.is c.if-size-eq0.false
    (sym c.form_by.ensures ∙ none-of _ c.in_default-form_by.not-Some)))))

pub returns : goal.returns
returns c = record {
  held = λ bytes views at are.
      let entries = c.table_entries-entries.ensures bytes at are in
      c.mapped_table.ensures.held bytes views (is_address bytes at _ _ entries _ c.in-Some.is) (is_size bytes at _ _ entries _ c.in-Some.is _ c.in-Some-size.is)
      ∙ sym (ap located_by (of_form bytes at _ _ entries _ c.in-Some.is _ c.in-Some-size.is _ c.in-Some-row.is c.if-size-eq0.false _ (sym c.form_by.ensures ∙ c.in-Some-form_by.is)));
  within = c.mapped_table.ensures.within;
  refusal = c.mapped_table.ensures.refusal;
}
