-- All records of the section are left if its table passes its checks.
use Rattle.std.proofs.Common.{◌≡◌, ◌<◌, List, ℕ, None, Some, sym, subst, ◌∙◌, arith}
use Rattle.elf_model.specs.Prelude.{e_shnum, section_at}
use Rattle.elf_model.specs.declared.versions.VersionKind.{VersionKind}
use Rattle.elf_capi.specs.Prelude.{AreRecords, first_kind}
use Rattle.elf_capi.specs.Checked.{load_refused}
use Rattle.elf_capi.proofs.RecordTables.{are_records}
use Rattle.elf_capi.proofs.record_tables.records_in.Goals as goal

pub returns-in-Ok-record_names : goal.returns-in-Ok-record_names
returns-in-Ok-record_names c =
    let held = c.in-Ok.held.bytes.now in
    let at = section_at held c.args.section in
    let loads = c.in-Ok.ensures in
    let found = c.in-Ok-record_names.ensures.value in
    let kind = sym (c.first_kind.ensures held at c.section-header.ensures) ∙ c.in-Some.is in
    let is = c.first_records.ensures held at c.section-header.ensures c.place.ensures in
    let inside : c.args.section < e_shnum held = omega (arith, c.sections.ensures.value, c.if-section-sections.false) in
    subst (λ (f : List ℕ). (load_refused f c.args.limits.now.headers ≡ None) × (c.args.section < e_shnum f)
    × ((k : VersionKind) × (first_kind f (section_at f c.args.section) ≡ Some k) × AreRecords f k (section_at f c.args.section) c.first_records.result)) loads.1 (
      subst (λ (f : List ℕ). load_refused f c.args.limits.now.headers ≡ None) (sym loads.1) loads.0,
      inside,
      (c.in-Some.kind, kind, are_records held c.in-Some.kind at c.in-Ok-record_names.names c.first_records.result found.0 found.1 kind is),
    )
