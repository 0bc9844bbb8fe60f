-- An entry is found, or none is left.
use Rattle.std.proofs.Common.{◌∙◌, sym, arith}
use Rattle.elf_model.specs.Tables.{section_bytes}
use Rattle.elf_resolve.proofs.LibraryEntryLaws.{entry_found, entry_past, entry_tag}
use Rattle.elf_resolve.proofs.library.DynamicRows.entry.Goals as goal

pub returns-then-row-lt-DYNAMIC_BYTES : goal.returns-then-row-lt-DYNAMIC_BYTES
returns-then-row-lt-DYNAMIC_BYTES c = λ file at held below.
    absurd (entry_past file c.args.strings.now.bytes c.bytes.result.now c.part_of-row.result.now at c.args.index c.saturating_mul-start.result c.args.self.now held
    (c.bytes.ensures (section_bytes file at) held.rows) c.part_of-row.ensures.fits (omega (arith, c.saturating_mul-start.ensures)) c.part_of-row.ensures.held c.part_of-row.ensures.none
    c.if-row-lt-DYNAMIC_BYTES.true below)

pub returns-then-tag-eq-DT_NULL : goal.returns-then-tag-eq-DT_NULL
returns-then-tag-eq-DT_NULL c = λ file at held below.
    let tag = entry_tag file c.args.strings.now.bytes c.bytes.result.now c.part_of-row.result.now at c.args.index c.saturating_mul-start.result c.args.self.now held
    (c.bytes.ensures (section_bytes file at) held.rows) c.part_of-row.ensures.fits (omega (arith, c.saturating_mul-start.ensures)) c.part_of-row.ensures.held c.part_of-row.ensures.none
    c.if-row-lt-DYNAMIC_BYTES.false in
    sym tag ∙ sym c.u64_at-tag.ensures ∙ c.if-tag-eq-DT_NULL.true

pub returns : goal.returns
returns c = λ file at held.
    entry_found file c.args.strings.now.bytes c.bytes.result.now c.part_of-row.result.now at c.args.index c.saturating_mul-start.result c.args.self.now held
    (c.bytes.ensures (section_bytes file at) held.rows) c.part_of-row.ensures.fits (omega (arith, c.saturating_mul-start.ensures)) c.part_of-row.ensures.held c.part_of-row.ensures.none
    c.u64_at-tag.result c.u64_at-value.result c.saturating_add-at.result c.if-row-lt-DYNAMIC_BYTES.false c.u64_at-tag.ensures c.u64_at-value.ensures (omega (arith, c.saturating_add-at.ensures)) c.if-tag-eq-DT_NULL.false
