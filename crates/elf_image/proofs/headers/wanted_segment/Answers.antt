-- The program header that is wanted.
use Rattle.std.proofs.Common.{◌≡◌, ℕ, ◌+◌, ◌*◌, ◌<◌, sym, ap, ◌∙◌, arith}
use Rattle.std.proofs.lemmas.Bool.{ltb-true}
use Rattle.elf_model.specs.Prelude.{e_phnum, segment_at}
use Rattle.elf_image.proofs.HeaderSteps.{loads_within, no_header, other_type, small, too_large}
use Rattle.elf_image.proofs.headers.wanted_segment.Goals as goal

pub returns-then-segment-segments-clause-held : goal.returns-then-segment-segments-clause-held
returns-then-segment-segments-clause-held c = λ file views passes.
    let count : c.segments.result ≡ e_phnum file = c.segments.ensures ∙ (views.count ∙ views.belongs.header.e_phnum) in
    rw c.refused.ensures (no_header file c.args.segment c.args.most (omega (arith, c.if-segment-segments.true, count)))

pub returns-then-header-ne-PT_LOAD-clause-held : goal.returns-then-header-ne-PT_LOAD-clause-held
returns-then-header-ne-PT_LOAD-clause-held c = λ file views passes.
    let count : c.segments.result ≡ e_phnum file = c.segments.ensures ∙ (views.count ∙ views.belongs.header.e_phnum) in
    let is = c.segment-header.ensures.is_at file views in
    rw c.refused-then-header-ne-PT_LOAD.ensures
    (other_type file c.args.segment c.args.most (omega (arith, c.if-segment-segments.false, count)) (λ load. c.if-header-ne-PT_LOAD.true (is.p_type ∙ load)))

pub returns-then-is_out_of_bounds-clause-held : goal.returns-then-is_out_of_bounds-clause-held
returns-then-is_out_of_bounds-clause-held c = λ file views passes.
    let count : c.segments.result ≡ e_phnum file = c.segments.ensures ∙ (views.count ∙ views.belongs.header.e_phnum) in
    let is = c.segment-header.ensures.is_at file views in
    let low : c.args.segment < e_phnum file = omega (arith, c.if-segment-segments.false, count) in
    let fits = loads_within file c.args.segment passes low (sym is.p_type ∙ c.if-header-ne-PT_LOAD.false) in
    let past : c.size.result < c.segment-header.result.p_offset + c.segment-header.result.p_filesz =
    ltb-true c.size.result (c.segment-header.result.p_offset + c.segment-header.result.p_filesz) (sym c.is_out_of_bounds.ensures ∙ c.if-is_out_of_bounds.true) in
    absurd (omega (arith, fits, past, is.p_offset, is.p_filesz, c.size.ensures, views.belongs.size))

pub returns-then-header-most-clause-held : goal.returns-then-header-most-clause-held
returns-then-header-most-clause-held c = λ file views passes.
    let count : c.segments.result ≡ e_phnum file = c.segments.ensures ∙ (views.count ∙ views.belongs.header.e_phnum) in
    let is = c.segment-header.ensures.is_at file views in
    let place : c.place-then-header-most.result ≡ segment_at file c.args.segment = c.place-then-header-most.ensures.value ∙ ap (λ (p : ℕ). p + 56 * c.args.segment) views.belongs.header.e_phoff in
    rw (c.refused-then-header-most.ensures, place)
    (too_large file c.args.segment c.args.most (omega (arith, c.if-segment-segments.false, count)) (sym is.p_type ∙ c.if-header-ne-PT_LOAD.false) (omega (arith, c.if-header-most.true, is.p_memsz)))

pub returns-clause-held : goal.returns-clause-held
returns-clause-held c = λ file views passes.
    let count : c.segments.result ≡ e_phnum file = c.segments.ensures ∙ (views.count ∙ views.belongs.header.e_phnum) in
    let is = c.segment-header.ensures.is_at file views in (
      small file c.args.segment c.args.most (omega (arith, c.if-segment-segments.false, count)) (sym is.p_type ∙ c.if-header-ne-PT_LOAD.false) (omega (arith, c.if-header-most.false, is.p_memsz)),
      is,
    )
