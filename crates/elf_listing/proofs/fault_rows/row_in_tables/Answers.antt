-- The first section that has the offset is the one that is found.
use Rattle.std.proofs.Common.{subst, sym, ◌∙◌, inl, inr, ◌≡◌, ℕ, false, arith}
use Rattle.std.proofs.lemmas.Bool.{cases_eq}
use Rattle.elf_model.specs.Prelude.{is_in_section}
use Rattle.elf_listing.specs.Prelude.{store_sections}
use Rattle.elf_listing.proofs.FaultRowSearch.{section_here, section_none, section_tested}
use Rattle.elf_listing.proofs.fault_rows.row_in_tables.Goals as goal

pub loop-index-preserved : goal.loop-index-preserved
loop-index-preserved c = λ j below.
    let tested = section_tested c.args.store.now c.args.at c.loop-index.index _ _ c.section-section.ensures.fields c.section_entry_size-size.ensures _ c.is_listed_at.ensures in
    elim (cases_eq j c.loop-index.index) [
      | inl same ↦ subst (λ (i : ℕ). is_in_section (store_sections c.args.store.now) c.args.at i ≡ false) (sym same) (tested ∙ c.if-is_listed_at.false)
      | inr other ↦ c.loop-index.invariant j (omega arith)
    ]

pub returns-then-is_listed_at : goal.returns-then-is_listed_at
returns-then-is_listed_at c =
    let tested = section_tested c.args.store.now c.args.at c.loop-index.index _ _ c.section-section.ensures.fields c.section_entry_size-size.ensures _ c.is_listed_at.ensures in
    let below = c.loaded-index-end.ensures.value in
    section_here c.args.store.now c.args.at c.loop-index.index _ _ c.section-section.ensures.fields c.section_entry_size-size.ensures _ c.entry_number.ensures
    (omega (arith, c.loop-index-test.true, below)) c.loop-index.invariant (tested ∙ c.if-is_listed_at.true)

pub returns : goal.returns
returns c = c.row_in_segments.ensures ∙ section_none c.args.store.now c.args.at (λ j below. let count = c.loaded-index-end.ensures.value in c.loop-index.invariant j (omega (arith, below, count, c.loop-index-test.false)))
