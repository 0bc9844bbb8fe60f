-- More entries are listed than may be read.
use Rattle.std.proofs.Common.{◌≡◌, ◌<◌, true, sym, ◌∙◌, arith}
use Rattle.elf_model.specs.Records.{e_shnum, section_at}
use Rattle.elf_capi.specs.Prelude.{holds}
use Rattle.elf_capi.specs.declared.kind.RowKind.TheVariants.{Dynamic}
use Rattle.elf_capi.proofs.ListedLaws.{table_past}
use Rattle.elf_capi.proofs.tables.dynamic_within.Goals as goal

pub returns-in-Err-listed_within : goal.returns-in-Err-listed_within
returns-in-Err-listed_within c =
    let held = c.in-Ok.held.bytes.now in
    let at = section_at held c.args.section in
    let below : c.args.section < e_shnum held = omega (arith, c.sections.ensures.value, c.if-section-sections.false) in
    let kind : holds Dynamic held at ≡ true = sym (c.holds.ensures held at c.section.ensures) ∙ c.if-not-holds.false in
    let found = c.in-Ok-dynamic_entries.found in
    table_past c.args.file.now held c.args.limits.now.headers c.args.section c.args.most found.0 found.1 c.of.result c.in-Err-listed_within.refusal
    c.in-Ok.ensures.1 c.in-Ok.ensures.0 below kind c.in-Ok-dynamic_entries.ensures.value c.of.ensures c.in-Err-listed_within.ensures
