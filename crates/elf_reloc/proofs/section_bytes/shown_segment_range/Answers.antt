-- The load, and the range of the program header.
use Rattle.std.proofs.Common.{◌≡◌, ℕ, ◌++◌, List, None, Result, Err, refl}
use Rattle.std.proofs.lemmas.Result.{err_from_is_err_and}
use Rattle.elf_hash.specs.Loading.{LoadsSegments}
use Rattle.elf_model.specs.BytesQuery.{range_of_segment}
use Rattle.elf_model.specs.Prelude.{first_refusal, header_checks, load_checks}
use Rattle.elf_table.specs.Prelude.{StoreState}
use Rattle.elf_table.specs.declared.fault.Fault.{Fault}
use Rattle.elf_table.specs.declared.fault.Fault.TheVariants.{Refused, Source}
use Rattle.elf_reloc.specs.Queried.{FindsAs, one_range, range_if_loaded}
use Rattle.elf_reloc.proofs.QueriedSteps.{CallReads-checked}
use Rattle.elf_reloc.proofs.section_bytes.shown_segment_range.Goals as goal

module _ (file : List ℕ) (headers segment : ℕ) where
  unloaded : (store : StoreState) (fault : Fault) → LoadsSegments file headers store (Err fault) → FindsAs one_range (Err fault) (range_if_loaded file headers segment)
  unloaded store (Refused refusal) loads = λ other. rw (loads other, range_if_loaded) refl
  unloaded store (Source fault at) loads = tt

  loaded : (result : Result (ℕ × ℕ) Fault) → first_refusal (header_checks file ++ load_checks file headers) ≡ None → FindsAs one_range result (range_of_segment file segment)
      → FindsAs one_range result (range_if_loaded file headers segment)
  loaded result passes found = rw (passes, range_if_loaded) found

pub returns-in_err-loaded-clause-did : goal.returns-in_err-loaded-clause-did
returns-in_err-loaded-clause-did g c =
    let p = err_from_is_err_and c.from_residual.result c.from_residual.ensures.1 in
    let did = c.in_err-loaded.ensures.did in
    rw (p.1, p.2)
    (record {
      costs = did.costs;
      known = λ file held empty.
          let told = did.known file held empty in
          record { costs = told.costs; finds = unloaded file c.args.store.now.slots c.args.segment c.load_by_segments.new.store c.in_err-loaded.field-0.0 told.loads };
    })

pub returns-clause-did : goal.returns-clause-did
returns-clause-did g c =
    let did = c.in_ok-loaded.ensures.did in
    record {
      costs = CallReads-checked c.segment_range.result c.segment_range.ensures.refusal did.costs;
      known = λ file held empty.
          let told = did.known file held empty in
          record {
            costs = CallReads-checked c.segment_range.result c.segment_range.ensures.refusal told.costs;
            finds = loaded file c.args.store.now.slots c.args.segment c.segment_range.result told.loads.0 (c.segment_range.ensures.held file told.loads.1);
          };
    }
