-- The file header, the load, and what follows.
use Rattle.std.proofs.Common.{ℕ, sym, ap, ◌∙◌, arith}
use Rattle.std.proofs.lemmas.Result.{err_from_is_err_and}
use Rattle.elf_model.specs.Checks.{first_refusal, early_checks, load_checks, section_name_checks}
use Rattle.elf_model.proofs.CheckSteps.{passes_front}
use Rattle.elf_hash.specs.Finding.{segments_bytes}
use Rattle.elf_table.proofs.LoadLaws.{header_most, load_most, load_slots}
use Rattle.elf_table.proofs.LedgerLaws.{CallReads-then, CallDid-as, CallDid-of, CallDid-sized, CallDid-then}
use Rattle.elf_hash.proofs.LoadedLaws.{all_within, cost_loaded, load_within, scope_least, tells_header, tells_load, tells_loaded}
use Rattle.elf_hash.proofs.lookup_tables_search.find_lookup_tables.Goals as goal

pub returns-in_err-header-clause-did : goal.returns-in_err-header-clause-did
returns-in_err-header-clause-did g c =
    let p = err_from_is_err_and c.from_residual.result c.from_residual.ensures.1 in
    let most = header_most c.args.src.now.seen.size in
    rw (p.1, p.2)
    (CallDid-as _ (omega (arith, most)) (CallDid-of c.header.ensures.reads c.in_err-header.ensures.says c.in_err-header.ensures.read)
    (λ file read costs.
    let least = scope_least file c.args.store.now.slots in
    record { costs = costs _ (omega (arith, most, least)); finds = tells_header file _ _ read }))

pub returns-in_err-loaded-clause-did : goal.returns-in_err-loaded-clause-did
returns-in_err-loaded-clause-did g c =
    let p = err_from_is_err_and c.from_residual-in_err-loaded.result c.from_residual-in_err-loaded.ensures.1 in
    let most = header_most c.args.src.now.seen.size in
    let slots = load_slots c.in_ok-header.header c.header.new.src.seen.size c.args.store.now.slots in
    rw (p.1, p.2)
    (CallDid-as _ (omega (arith, most, slots))
    (CallDid-then (CallDid-of c.header.ensures.reads tt c.in_ok-header.ensures.read)
    (CallDid-sized (CallDid-of c.load.ensures.reads c.in_err-loaded.ensures.says c.in_err-loaded.ensures.held)))
    (λ file told costs.
    let within = load_within file c.args.store.now.slots _ _ told.0.1 (sym told.1.0) told.0.0 in
    record { costs = costs _ (omega (arith, most, within)); finds = tells_load file _ _ c.load.new.store told.0.0 c.load.ensures.slots (told.1.1 told.0.1) }))

pub returns-clause-did : goal.returns-clause-did
returns-clause-did g c =
    let most = header_most c.args.src.now.seen.size in
    let headers = load_most c.in_ok-header.header c.header.new.src.seen.size c.args.store.now.slots in
    let loaded = CallDid-then (CallDid-of c.header.ensures.reads tt c.in_ok-header.ensures.read) (CallDid-of c.load.ensures.reads tt c.in_ok-loaded.ensures.held) in
    let same = loaded.costs.reads.keeps.same_size in
    let opened = c.in_ok-loaded.ensures.opens in
    let slots = c.load.ensures.slots in
    let few = opened.passes.few in
    let few_segments = opened.passes.few_segments in
    let all = all_within c.in_ok-header.header c.load.new.src.seen.size c.header.new.src.seen.size c.args.store.now.slots (omega (arith, few, slots)) (omega (arith, few_segments, slots)) in
    let bytes = ap (λ h. segments_bytes h c.load.new.src.seen.size) opened.same_header in
    CallDid-as _ (omega (arith, most, same, all, bytes)) (CallDid-then loaded c.loaded_scope.ensures.did)
    (λ file told costs.
    let belongs = told.0.1 told.0.0.1 in
    let load = ap (λ (n : ℕ). first_refusal (load_checks file n)) (sym c.load.ensures.slots) ∙ belongs.passes in
    let early = passes_front (early_checks file c.args.store.now.slots) (section_name_checks file) load in
    let cost = cost_loaded file c.args.store.now.slots told.0.0.0 early in
    let behind = told.1 belongs in
    record {
      costs = CallReads-then _ (omega (arith, most, headers, cost, told.0.0.1.e_shnum)) loaded.costs behind.0;
      finds = tells_loaded file c.args.store.now.slots _ told.0.0.0 load behind.1;
    })
