-- The load, and the range of the section.
use Rattle.std.proofs.Common.{arith}
use Rattle.std.proofs.lemmas.Result.{err_from_is_err_and}
use Rattle.elf_table.proofs.LedgerLaws.{CallDid-as, CallReads-more}
use Rattle.elf_reloc.specs.Queried.{one_range}
use Rattle.elf_reloc.proofs.QueriedSteps.{CallDid-checked, CallReads-checked, section_costs, section_loaded, section_unloaded}
use Rattle.elf_reloc.proofs.section_bytes.find_section_range.Goals as goal

pub returns-in_err-loaded-clause-did : goal.returns-in_err-loaded-clause-did
returns-in_err-loaded-clause-did g c =
    let p = err_from_is_err_and c.from_residual.result c.from_residual.ensures.1 in
    rw (p.1, p.2)
    (CallDid-as _ (omega arith) c.in_err-loaded.ensures.did
    (λ file told costs. record {
      costs = CallReads-more _ (section_costs file c.args.store.now.slots c.args.section) told.costs;
      finds = section_unloaded file c.args.store.now.slots one_range c.args.section _ c.load_by_sections.new.store told.loads;
    }))

pub returns-clause-did : goal.returns-clause-did
returns-clause-did g c =
    CallDid-as _ (omega arith) (CallDid-checked c.section_range.result c.section_range.ensures.refusal c.in_ok-loaded.ensures.did)
    (λ file told costs. record {
      costs = CallReads-more _ (section_costs file c.args.store.now.slots c.args.section) (CallReads-checked c.section_range.result c.section_range.ensures.refusal told.costs);
      finds = section_loaded file c.args.store.now.slots c.args.section c.section_range.result told.loads.0 (c.section_range.ensures.held file told.loads.1);
    })
