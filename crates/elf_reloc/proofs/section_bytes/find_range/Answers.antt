-- One range, as what may be found.
use Rattle.std.proofs.Common.{◌≡◌, ℕ, None, Some, Option, Result, Ok, Err}
use Rattle.std.proofs.lemmas.Result.{err_from_is_err_and}
use Rattle.elf_source.specs.Source.{CountedState}
use Rattle.elf_table.specs.Prelude.{CallDid, fault_of_result}
use Rattle.elf_table.specs.declared.fault.Fault.{Fault}
use Rattle.elf_reloc.specs.Queried.{FindsQueried, one_range, query_as, range_ceiling, some_range}
use Rattle.elf_reloc.specs.declared.wanted_bytes.WantedBytes.{WantedBytes}
use Rattle.elf_reloc.specs.declared.wanted_bytes.WantedBytes.TheVariants.{Section, Segment}
use Rattle.elf_reloc.proofs.section_bytes.find_range.Goals as goal

module _ (a b : CountedState) (slots : ℕ) (query : WantedBytes) where
  found_some : (named : WantedBytes) (range : ℕ × ℕ) → query ≡ named
      → CallDid a b None (range_ceiling slots (query_as named)) (λ file. FindsQueried one_range file slots (query_as named) a b (Ok range))
      → CallDid a b None (range_ceiling slots (query_as query)) (λ file. FindsQueried some_range file slots (query_as query) a b (Ok (Some range)))
  found_some named range is did = rw is (record { costs = did.costs; known = λ file h. let told = did.known file h in record { costs = told.costs; finds = told.finds } })

  found_fault : (named : WantedBytes) (fault cause : Fault) (result : Result (Option (ℕ × ℕ)) Fault) → query ≡ named → result ≡ Err cause → cause ≡ fault
      → CallDid a b (Some fault) (range_ceiling slots (query_as named)) (λ file. FindsQueried one_range file slots (query_as named) a b (Err fault))
      → CallDid a b (fault_of_result result) (range_ceiling slots (query_as query)) (λ file. FindsQueried some_range file slots (query_as query) a b result)
  found_fault named fault cause result is fails same did = rw (is, fails, same) (record { costs = did.costs; known = λ file h. let told = did.known file h in record { costs = told.costs; finds = told.finds } })

pub returns-in_err-find_section_range-in-Section-clause-did : goal.returns-in_err-find_section_range-in-Section-clause-did
returns-in_err-find_section_range-in-Section-clause-did g c =
    let p = err_from_is_err_and c.from_residual.result c.from_residual.ensures.1 in
    found_fault c.args.src.now c.find_section_range.new.src c.args.store.now.slots c.args.query.now (Section c.in-Section.section) c.in_err-find_section_range-in-Section.field-0.0 p.0 c.from_residual.result c.in-Section.is p.1 p.2
    c.in_err-find_section_range-in-Section.ensures.did

pub returns-in_err-find_segment_range-in-Segment-clause-did : goal.returns-in_err-find_segment_range-in-Segment-clause-did
returns-in_err-find_segment_range-in-Segment-clause-did g c =
    let p = err_from_is_err_and c.from_residual-in_err-find_segment_range-in-Segment.result c.from_residual-in_err-find_segment_range-in-Segment.ensures.1 in
    found_fault c.args.src.now c.find_segment_range.new.src c.args.store.now.slots c.args.query.now (Segment c.in-Segment.segment) c.in_err-find_segment_range-in-Segment.field-0.0 p.0 c.from_residual-in_err-find_segment_range-in-Segment.result c.in-Segment.is p.1 p.2
    c.in_err-find_segment_range-in-Segment.ensures.did

pub returns-in_ok-find_section_range-in-Section-clause-did : goal.returns-in_ok-find_section_range-in-Section-clause-did
returns-in_ok-find_section_range-in-Section-clause-did g c =
    found_some c.args.src.now c.find_section_range.new.src c.args.store.now.slots c.args.query.now (Section c.in-Section.section) c.in_ok-find_section_range-in-Section.field-0 c.in-Section.is
    c.in_ok-find_section_range-in-Section.ensures.did

pub returns-in_ok-find_segment_range-in-Segment-clause-did : goal.returns-in_ok-find_segment_range-in-Segment-clause-did
returns-in_ok-find_segment_range-in-Segment-clause-did g c =
    found_some c.args.src.now c.find_segment_range.new.src c.args.store.now.slots c.args.query.now (Segment c.in-Segment.segment) c.in_ok-find_segment_range-in-Segment.field-0 c.in-Segment.is
    c.in_ok-find_segment_range-in-Segment.ensures.did

pub returns-in-Name-clause-did : goal.returns-in-Name-clause-did
returns-in-Name-clause-did g c = rw c.in-Name.is c.find_named_range.ensures.did
