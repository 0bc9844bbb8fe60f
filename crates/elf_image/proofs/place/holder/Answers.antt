-- The first program header whose segment has the bytes in memory is the first one that is found.
use Rattle.std.proofs.Common.{◌≡◌, ℕ, inl, inr, ap, sym, ◌∙◌, arith}
use Rattle.std.proofs.lemmas.Bool.{cases_eq}
use Rattle.elf_model.specs.Image.{holder_of, holds_in_memory}
use Rattle.elf_model.specs.Records.{e_phnum, segment_at}
use Rattle.elf_model.proofs.LookupSteps.{first_that-none, first_that-some}
use Rattle.elf_image.proofs.place.holder.Goals as goal

pub returns-then-holds_place-clause-held : goal.returns-then-holds_place-clause-held
unfolding holder_of
returns-then-holds_place-clause-held c = λ bytes views.
    let count : c.segments-index-end.result ≡ e_phnum bytes = c.segments-index-end.ensures ∙ (views.count ∙ views.belongs.header.e_phnum) in
    let here = sym (c.if-holds_place.ensures.value bytes (segment_at bytes c.loop-index.index) (c.segment.ensures.is_at bytes views)) in
    sym (first_that-some (λ (i : ℕ). holds_in_memory bytes (segment_at bytes i) c.args.address c.args.width) 0 (e_phnum bytes) c.loop-index.index (omega arith) (omega (arith, c.loop-index-test.true, count))
    (λ j low high. c.loop-index.invariant bytes views j high) here)

pub loop-index-preserved : goal.loop-index-preserved
loop-index-preserved c = λ bytes views i low.
    elim (cases_eq i c.loop-index.index) [
      | inl same ↦
          let other = sym (c.if-holds_place.ensures.value bytes (segment_at bytes c.loop-index.index) (c.segment.ensures.is_at bytes views)) in
          ap (λ (k : ℕ). holds_in_memory bytes (segment_at bytes k) c.args.address c.args.width) same ∙ other
      | inr other ↦ c.loop-index.invariant bytes views i (omega arith)
    ]

pub returns-clause-held : goal.returns-clause-held
unfolding holder_of
returns-clause-held c = λ bytes views.
    let count : c.segments-index-end.result ≡ e_phnum bytes = c.segments-index-end.ensures ∙ (views.count ∙ views.belongs.header.e_phnum) in
    sym (first_that-none (λ (i : ℕ). holds_in_memory bytes (segment_at bytes i) c.args.address c.args.width) 0 (e_phnum bytes)
    (λ j low high. c.loop-index.invariant bytes views j (omega (arith, c.loop-index-test.false, count))))
