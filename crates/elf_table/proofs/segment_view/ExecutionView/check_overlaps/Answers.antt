-- The first LOAD segment that overlaps the one before it is the first one that is found.
use Rattle.std.proofs.Common.{◌≡◌, ℕ, ◌+◌, ◌*◌, Some, ap, sym, ◌∙◌, arith}
use Rattle.elf_model.specs.Prelude.{segment_at}
use Rattle.elf_model.specs.declared.causes.Cause.TheVariants.{LoadOverlap}
use Rattle.elf_table.proofs.OverlapLaws.{left, begun, met, passed, ended}
use Rattle.elf_table.proofs.segment_view.ExecutionView.check_overlaps.Goals as goal

pub segments-init : goal.segments-init
segments-init c = record {
  within = omega arith;
  same = λ file views. begun file c.segments-count.result (c.segments-count.ensures ∙ (views.count ∙ views.belongs.header.e_phnum));
}

pub returns-then-begins_below-clause-held : goal.returns-then-begins_below-clause-held
returns-then-begins_below-clause-held c = λ file views.
    let here = c.segment-header.ensures.is_at file views in
    let low = sym (c.begins_below.ensures file (segment_at file c.segments.segment) here) ∙ c.if-begins_below.true in
    let place : segment_at file c.segments.segment ≡ c.place.result =
    sym (c.place.ensures.value ∙ ap (λ (n : ℕ). n + 56 * c.segments.segment) views.belongs.header.e_phoff) in
    rw c.refused.ensures
    (c.segments.invariant.same file views
    ∙ (met file c.segments.page c.segments.segment c.segments-count.result (omega arith) low
    ∙ ap (λ (at : ℕ). Some (record { at = at; cause = LoadOverlap })) place))

pub segments-preserved : goal.segments-preserved
segments-preserved c = record {
  within = omega arith;
  same = λ file views.
      let here = c.segment-header.ensures.is_at file views in
      let high = sym (c.begins_below.ensures file (segment_at file c.segments.segment) here) ∙ c.if-begins_below.false in
      let next = c.page_after-page.ensures file (segment_at file c.segments.segment) here in
      c.segments.invariant.same file views
      ∙ (passed file c.segments.page c.segments.segment c.segments-count.result (omega arith) high
      ∙ ap (λ (page : ℕ). left file page (c.segments.segment + 1) c.segments-count.result) (sym next));
}

pub returns-clause-held : goal.returns-clause-held
returns-clause-held c = λ file views.
    c.segments.invariant.same file views ∙ ended file c.segments.page c.segments.segment c.segments-count.result (omega arith)
