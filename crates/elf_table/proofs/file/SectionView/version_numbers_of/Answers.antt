-- The first section of symbol versions that link there is the first one that is found.
use Rattle.std.proofs.Common.{◌≡◌, ◌==◌, ◌&&◌, ℕ, Bool, inl, inr, ap, ap₂, sym, ◌∙◌, arith}
use Rattle.std.proofs.lemmas.Bool.{cases_eq}
use Rattle.elf_model.specs.Prelude.{SHT_GNU_VERSYM, e_shnum, file_sections, header_field, sh_link, sh_type}
use Rattle.elf_model.proofs.LookupSteps.{first_that-none, first_that-some}
use Rattle.elf_table.specs.Versions.{sections_in}
use Rattle.elf_table.proofs.file.SectionView.version_numbers_of.Goals as goal

-- the test of a header, by its fields
told : (type link symbols : ℕ) → Bool
told type link symbols = type == SHT_GNU_VERSYM && link == symbols

pub returns-then-numbers-clause-value : goal.returns-then-numbers-clause-value
unfolding told
returns-then-numbers-clause-value c =
    let all = sections_in c.args.self.now in
    let fields = c.section.ensures.fields in
    let same = ap₂ (λ (type link : ℕ). told type link c.args.symbols) fields.sh_type fields.sh_link in
    sym (first_that-some (λ (i : ℕ). header_field all sh_type i == SHT_GNU_VERSYM && header_field all sh_link i == c.args.symbols) 0 all.count c.loop-section.section (omega arith)
    (omega (arith, c.loop-section-test.true, c.sections-section-end.ensures))
    (λ j low high. c.loop-section.invariant.value j high) (sym same ∙ (sym c.numbers.ensures ∙ c.if-numbers.true)))

pub returns-then-numbers-clause-held : goal.returns-then-numbers-clause-held
unfolding told
returns-then-numbers-clause-held c = λ file belongs.
    let all = file_sections file in
    let is_at = c.section.ensures.is_at file belongs in
    let count : c.sections-section-end.result ≡ e_shnum file = c.sections-section-end.ensures ∙ (belongs.count ∙ belongs.header.e_shnum) in
    let same = ap₂ (λ (type link : ℕ). told type link c.args.symbols) is_at.sh_type is_at.sh_link in
    sym (first_that-some (λ (i : ℕ). header_field all sh_type i == SHT_GNU_VERSYM && header_field all sh_link i == c.args.symbols) 0 (e_shnum file) c.loop-section.section (omega arith)
    (omega (arith, c.loop-section-test.true, count))
    (λ j low high. c.loop-section.invariant.held file belongs j high) (sym same ∙ (sym c.numbers.ensures ∙ c.if-numbers.true)))

pub loop-section-preserved : goal.loop-section-preserved
unfolding told
loop-section-preserved c = record {
  value = λ i low.
      elim (cases_eq i c.loop-section.section) [
        | inl same ↦
            let all = sections_in c.args.self.now in
            let fields = c.section.ensures.fields in
            let is = ap₂ (λ (type link : ℕ). told type link c.args.symbols) fields.sh_type fields.sh_link in
            ap (λ (k : ℕ). told (header_field all sh_type k) (header_field all sh_link k) c.args.symbols) same ∙ (sym is ∙ (sym c.numbers.ensures ∙ c.if-numbers.false))
        | inr other ↦ c.loop-section.invariant.value i (omega arith)
      ];
  held = λ file belongs i low.
      elim (cases_eq i c.loop-section.section) [
        | inl same ↦
            let all = file_sections file in
            let is_at = c.section.ensures.is_at file belongs in
            let is = ap₂ (λ (type link : ℕ). told type link c.args.symbols) is_at.sh_type is_at.sh_link in
            ap (λ (k : ℕ). told (header_field all sh_type k) (header_field all sh_link k) c.args.symbols) same ∙ (sym is ∙ (sym c.numbers.ensures ∙ c.if-numbers.false))
        | inr other ↦ c.loop-section.invariant.held file belongs i (omega arith)
      ];
}

pub returns-clause-value : goal.returns-clause-value
returns-clause-value c =
    let all = sections_in c.args.self.now in
    sym (first_that-none (λ (i : ℕ). header_field all sh_type i == SHT_GNU_VERSYM && header_field all sh_link i == c.args.symbols) 0 all.count
    (λ j low high. c.loop-section.invariant.value j (omega (arith, c.loop-section-test.false, c.sections-section-end.ensures))))

pub returns-clause-held : goal.returns-clause-held
returns-clause-held c = λ file belongs.
    let count : c.sections-section-end.result ≡ e_shnum file = c.sections-section-end.ensures ∙ (belongs.count ∙ belongs.header.e_shnum) in
    sym (first_that-none (λ (i : ℕ). header_field (file_sections file) sh_type i == SHT_GNU_VERSYM && header_field (file_sections file) sh_link i == c.args.symbols) 0 (e_shnum file)
    (λ j low high. c.loop-section.invariant.held file belongs j (omega (arith, c.loop-section-test.false, count))))
