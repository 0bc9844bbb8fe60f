-- A segment that is writable and executable, the next, or no other.
use Rattle.std.proofs.Common.{refl, sym, ◌∙◌, arith}
use Rattle.elf_loader.proofs.SegmentLaws.{writable_here, writable_more, writable_none}
use Rattle.elf_loader.proofs.trait_segments.first_writable_code.Goals as goal

pub returns-then-is_writable_code : goal.returns-then-is_writable_code
returns-then-is_writable_code c = λ file views.
    let count = c.segments-count.ensures in
    let headers = views.belongs.header.e_phnum in
    let is = sym (c.is_writable_code.ensures file c.segments.segment (c.segment.ensures.is_at file views)) ∙ c.if-is_writable_code.true in
    sym (c.segments.invariant.left file views ∙ writable_here file c.segments.segment (omega (arith, count, views.count, headers, c.segments-test.true)) is)

pub segments-preserved : goal.segments-preserved
segments-preserved c = record {
  left = λ file views.
      let count = c.segments-count.ensures in
      let headers = views.belongs.header.e_phnum in
      let isnt = sym (c.is_writable_code.ensures file c.segments.segment (c.segment.ensures.is_at file views)) ∙ c.if-is_writable_code.false in
      c.segments.invariant.left file views ∙ writable_more file c.segments.segment _ refl (omega (arith, count, views.count, headers, c.segments-test.true)) isnt;
}

pub returns : goal.returns
returns c = λ file views.
    let count = c.segments-count.ensures in
    let headers = views.belongs.header.e_phnum in
    sym (c.segments.invariant.left file views ∙ writable_none file c.segments.segment (omega (arith, count, views.count, headers, c.segments-test.false)))
