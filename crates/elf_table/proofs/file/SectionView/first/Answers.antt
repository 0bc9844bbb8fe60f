-- The first section of the type is the first one that is found.
use Rattle.std.proofs.Common.{◌≡◌, ◌==◌, ℕ, inl, inr, ap, sym, ◌∙◌, arith, eq-eqb, ne_eqb}
use Rattle.std.proofs.lemmas.Bool.{cases_eq}
use Rattle.elf_model.specs.Prelude.{e_shnum, file_sections, header_field, sh_type}
use Rattle.elf_model.proofs.LookupSteps.{first_that-none, first_that-some}
use Rattle.elf_table.specs.Versions.{sections_in}
use Rattle.elf_table.proofs.file.SectionView.first.Goals as goal

pub returns-then-section-sh_type-clause-value : goal.returns-then-section-sh_type-clause-value
returns-then-section-sh_type-clause-value c =
    let all = sections_in c.args.self.now in
    let type = c.args.sh_type in
    let here = eq-eqb (header_field all sh_type c.loop-section.section) type (sym c.section.ensures.fields.sh_type ∙ c.if-section-sh_type.true) in
    sym (first_that-some (λ (i : ℕ). header_field all sh_type i == type) 0 all.count c.loop-section.section (omega arith) (omega (arith, c.loop-section-test.true, c.sections-section-end.ensures))
    (λ j low high. c.loop-section.invariant.value j high) here)

pub returns-then-section-sh_type-clause-held : goal.returns-then-section-sh_type-clause-held
returns-then-section-sh_type-clause-held c = λ file belongs.
    let all = file_sections file in
    let type = c.args.sh_type in
    let count : c.sections-section-end.result ≡ e_shnum file = c.sections-section-end.ensures ∙ (belongs.count ∙ belongs.header.e_shnum) in
    let here = eq-eqb (header_field all sh_type c.loop-section.section) type (sym (c.section.ensures.is_at file belongs).sh_type ∙ c.if-section-sh_type.true) in
    sym (first_that-some (λ (i : ℕ). header_field all sh_type i == type) 0 (e_shnum file) c.loop-section.section (omega arith) (omega (arith, c.loop-section-test.true, count))
    (λ j low high. c.loop-section.invariant.held file belongs j high) here)

pub loop-section-preserved : goal.loop-section-preserved
loop-section-preserved c = record {
  value = λ i low.
      elim (cases_eq i c.loop-section.section) [
        | inl same ↦
            let other = ne_eqb (header_field (sections_in c.args.self.now) sh_type c.loop-section.section) c.args.sh_type (λ e. c.if-section-sh_type.false (c.section.ensures.fields.sh_type ∙ e)) in
            ap (λ (k : ℕ). header_field (sections_in c.args.self.now) sh_type k == c.args.sh_type) same ∙ other
        | inr other ↦ c.loop-section.invariant.value i (omega arith)
      ];
  held = λ file belongs i low.
      elim (cases_eq i c.loop-section.section) [
        | inl same ↦
            let other = ne_eqb (header_field (file_sections file) sh_type c.loop-section.section) c.args.sh_type (λ e. c.if-section-sh_type.false ((c.section.ensures.is_at file belongs).sh_type ∙ e)) in
            ap (λ (k : ℕ). header_field (file_sections file) sh_type k == c.args.sh_type) same ∙ other
        | inr other ↦ c.loop-section.invariant.held file belongs i (omega arith)
      ];
}

pub returns-clause-value : goal.returns-clause-value
returns-clause-value c =
    let all = sections_in c.args.self.now in
    sym (first_that-none (λ (i : ℕ). header_field all sh_type i == c.args.sh_type) 0 all.count
    (λ j low high. c.loop-section.invariant.value j (omega (arith, c.loop-section-test.false, c.sections-section-end.ensures))))

pub returns-clause-held : goal.returns-clause-held
returns-clause-held c = λ file belongs.
    let count : c.sections-section-end.result ≡ e_shnum file = c.sections-section-end.ensures ∙ (belongs.count ∙ belongs.header.e_shnum) in
    sym (first_that-none (λ (i : ℕ). header_field (file_sections file) sh_type i == c.args.sh_type) 0 (e_shnum file)
    (λ j low high. c.loop-section.invariant.held file belongs j (omega (arith, c.loop-section-test.false, count))))
