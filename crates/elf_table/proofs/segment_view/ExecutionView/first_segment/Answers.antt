-- The first program header of the type is the first one that is found.
use Rattle.std.proofs.Common.{◌≡◌, ◌==◌, ℕ, inl, inr, ap, sym, ◌∙◌, arith, eq-eqb, ne_eqb}
use Rattle.std.proofs.lemmas.Bool.{cases_eq}
use Rattle.elf_model.specs.Records.{e_phnum, p_type, segment_at}
use Rattle.elf_model.proofs.LookupSteps.{first_that-none, first_that-some}
use Rattle.elf_table.proofs.segment_view.ExecutionView.first_segment.Goals as goal

pub returns-then-segment-kind-clause-first : goal.returns-then-segment-kind-clause-first
returns-then-segment-kind-clause-first c = λ bytes views.
    let kind = c.args.kind in
    let count : c.segments-index-end.result ≡ e_phnum bytes = c.segments-index-end.ensures ∙ (views.count ∙ views.belongs.header.e_phnum) in
    let here = eq-eqb (p_type bytes (segment_at bytes c.loop-index.index)) kind (sym (c.segment.ensures.is_at bytes views).p_type ∙ c.if-segment-kind.true) in
    sym (first_that-some (λ (i : ℕ). p_type bytes (segment_at bytes i) == kind) 0 (e_phnum bytes) c.loop-index.index (omega arith) (omega (arith, c.loop-index-test.true, count))
    (λ j low high. c.loop-index.invariant bytes views j high) here)

pub loop-index-preserved : goal.loop-index-preserved
loop-index-preserved c = λ bytes views i low.
    let kind = c.args.kind in
    elim (cases_eq i c.loop-index.index) [
      | inl same ↦
          let other = ne_eqb (p_type bytes (segment_at bytes c.loop-index.index)) kind (λ e. c.if-segment-kind.false ((c.segment.ensures.is_at bytes views).p_type ∙ e)) in
          ap (λ (k : ℕ). p_type bytes (segment_at bytes k) == kind) same ∙ other
      | inr other ↦ c.loop-index.invariant bytes views i (omega arith)
    ]

pub returns-clause-first : goal.returns-clause-first
returns-clause-first c = λ bytes views.
    let kind = c.args.kind in
    let count : c.segments-index-end.result ≡ e_phnum bytes = c.segments-index-end.ensures ∙ (views.count ∙ views.belongs.header.e_phnum) in
    sym (first_that-none (λ (i : ℕ). p_type bytes (segment_at bytes i) == kind) 0 (e_phnum bytes)
    (λ j low high. c.loop-index.invariant bytes views j (omega (arith, c.loop-index-test.false, count))))
