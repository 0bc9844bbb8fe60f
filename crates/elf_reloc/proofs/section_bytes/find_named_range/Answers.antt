-- The load, the section of the name, and its range.
use Rattle.std.proofs.Common.{◌≤◌, ℕ, ◌+◌, ◌*◌, Ok, Err, length, ap, ◌∙◌, arith}
use Rattle.std.proofs.lemmas.Result.{err_from_is_err_and}
use Rattle.elf_model.specs.Prelude.{pad64}
use Rattle.elf_table.proofs.LedgerLaws.{CallDid-as, CallDid-stop, CallDid-then, CallReads-more, CallReads-then}
use Rattle.elf_reloc.specs.Queried.{some_range}
use Rattle.elf_reloc.proofs.QueriedSteps.{CallReads-checked, all_names_cost, all_slots, name_absent, name_costs, name_fails, name_found, name_outside, name_unloaded}
use Rattle.elf_reloc.proofs.section_bytes.find_named_range.Goals as goal

pub returns-in_err-loaded-clause-did : goal.returns-in_err-loaded-clause-did
returns-in_err-loaded-clause-did g c =
    let p = err_from_is_err_and c.from_residual.result c.from_residual.ensures.1 in
    let more : 64 + c.args.store.now.slots * 64 ≤ 64 + c.args.store.now.slots * (64 + pad64 (length c.args.wanted.now + 1)) =
    (let all = all_slots c.args.store.now.slots 0 (pad64 (length c.args.wanted.now + 1)) (omega arith) in omega (arith, all)) in
    rw (p.1, p.2)
    (CallDid-as _ more c.in_err-loaded.ensures.did
    (λ file told costs. record {
      costs = CallReads-more _ (name_costs file c.args.store.now.slots c.args.wanted.now) told.costs;
      finds = name_unloaded file c.args.store.now.slots some_range c.args.wanted.now _ c.load_by_sections.new.store told.loads;
    }))

pub returns-in_err-section-clause-did : goal.returns-in_err-section-clause-did
returns-in_err-section-clause-did g c =
    let p = err_from_is_err_and c.from_residual-in_err-section.result c.from_residual-in_err-section.ensures.1 in
    rw (p.1, p.2)
    (CallDid-as _ (all_slots c.args.store.now.slots c.load_by_sections.new.store.loaded (pad64 (length c.args.wanted.now + 1)) (omega (arith, c.in_ok-loaded.ensures.holds.few, c.load_by_sections.ensures.slots)))
    (CallDid-then c.in_ok-loaded.ensures.did c.in_err-section.ensures.did)
    (λ file told costs.
    let passes = told.0.loads.0 in
    let belongs = told.0.loads.1 in
    record {
      costs = CallReads-then _ (all_names_cost file c.args.store.now.slots c.args.wanted.now passes _ (belongs.count ∙ belongs.header.e_shnum)) told.0.costs c.in_err-section.ensures.did.costs;
      finds = name_fails file c.args.store.now.slots c.args.wanted.now passes _ (told.1 belongs);
    }))

pub returns-in_default-clause-did : goal.returns-in_default-clause-did
returns-in_default-clause-did g c =
    CallDid-as _ (all_slots c.args.store.now.slots c.load_by_sections.new.store.loaded (pad64 (length c.args.wanted.now + 1)) (omega (arith, c.in_ok-loaded.ensures.holds.few, c.load_by_sections.ensures.slots)))
    (CallDid-then c.in_ok-loaded.ensures.did c.in_ok-section.ensures.did)
    (λ file told costs.
    let passes = told.0.loads.0 in
    let belongs = told.0.loads.1 in
    record {
      costs = CallReads-then _ (all_names_cost file c.args.store.now.slots c.args.wanted.now passes _ (belongs.count ∙ belongs.header.e_shnum)) told.0.costs c.in_ok-section.ensures.did.costs;
      finds = name_absent file c.args.store.now.slots c.args.wanted.now passes (told.1 belongs ∙ ap Ok c.in_default.is);
    })

pub returns-in_err-section_range-clause-did : goal.returns-in_err-section_range-clause-did
returns-in_err-section_range-clause-did g c =
    let p = err_from_is_err_and c.from_residual-in_err-section_range.result c.from_residual-in_err-section_range.ensures.1 in
    rw (p.1, p.2)
    (CallDid-as _ (all_slots c.args.store.now.slots c.load_by_sections.new.store.loaded (pad64 (length c.args.wanted.now + 1)) (omega (arith, c.in_ok-loaded.ensures.holds.few, c.load_by_sections.ensures.slots)))
    (CallDid-stop _ c.in_err-section_range.ensures.refusal (CallDid-then c.in_ok-loaded.ensures.did c.in_ok-section.ensures.did))
    (λ file told costs.
    let passes = told.0.loads.0 in
    let belongs = told.0.loads.1 in
    record {
      costs = CallReads-checked {X = ℕ × ℕ} (Err _) c.in_err-section_range.ensures.refusal (CallReads-then _ (all_names_cost file c.args.store.now.slots c.args.wanted.now passes _ (belongs.count ∙ belongs.header.e_shnum)) told.0.costs c.in_ok-section.ensures.did.costs);
      finds = name_outside file c.args.store.now.slots c.args.wanted.now passes _ _ (told.1 belongs ∙ ap Ok c.in-Some.is) (c.in_err-section_range.ensures.held file belongs);
    }))

pub returns-clause-did : goal.returns-clause-did
returns-clause-did g c =
    CallDid-as _ (all_slots c.args.store.now.slots c.load_by_sections.new.store.loaded (pad64 (length c.args.wanted.now + 1)) (omega (arith, c.in_ok-loaded.ensures.holds.few, c.load_by_sections.ensures.slots)))
    (CallDid-then c.in_ok-loaded.ensures.did c.in_ok-section.ensures.did)
    (λ file told costs.
    let passes = told.0.loads.0 in
    let belongs = told.0.loads.1 in
    record {
      costs = CallReads-then _ (all_names_cost file c.args.store.now.slots c.args.wanted.now passes _ (belongs.count ∙ belongs.header.e_shnum)) told.0.costs c.in_ok-section.ensures.did.costs;
      finds = name_found file c.args.store.now.slots c.args.wanted.now passes _ _ (told.1 belongs ∙ ap Ok c.in-Some.is) (c.in_ok-section_range.ensures.held file belongs);
    })
