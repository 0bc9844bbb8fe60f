-- The first program header that holds the bytes is the first one that is found.
use Rattle.std.proofs.Common.{sym, ◌∙◌, arith}
use Rattle.elf_table.proofs.MappedLaws.{mapped_found, mapped_none, mapped_passed}
use Rattle.elf_table.proofs.segment_checks.mapping.Goals as goal

pub returns-then-maps-clause-held : goal.returns-then-maps-clause-held
returns-then-maps-clause-held g c = λ file rows counted.
    c.segments.invariant.none file rows counted ∙ mapped_found file _ _ _ _ (omega arith) (sym (c.if-maps.ensures.value file _ (c.program_header.ensures.is_at file rows)))

pub segments-preserved : goal.segments-preserved
segments-preserved g c = record {
  within = omega arith;
  none = λ file rows counted.
      c.segments.invariant.none file rows counted ∙ mapped_passed file _ _ _ _ (omega arith) (sym (c.if-maps.ensures.value file _ (c.program_header.ensures.is_at file rows)));
}

pub returns-clause-held : goal.returns-clause-held
returns-clause-held g c = λ file rows counted. c.segments.invariant.none file rows counted ∙ mapped_none file _ _ _ _ (omega arith)
