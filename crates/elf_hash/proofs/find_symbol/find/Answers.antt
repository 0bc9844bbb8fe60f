-- The file header, the load, and what follows, each within the lookup's cost.
use Rattle.std.proofs.Common.{ℕ, ◌/◌, length, sym, ap, ◌∙◌, arith}
use Rattle.std.proofs.lemmas.Result.{err_from_is_err_and}
use Rattle.elf_model.specs.Checks.{first_refusal, load_checks}
use Rattle.elf_hash.specs.Lookups.{after_headers_bytes}
use Rattle.elf_table.proofs.LoadLaws.{header_most, load_most, load_slots}
use Rattle.elf_hash.proofs.FindLaws.{Passed, cost_after, find_least, finds_header, finds_load, load_within, looked_passed}
use Rattle.elf_table.proofs.LedgerLaws.{CallReads-then, CallDid-as, CallDid-of, CallDid-sized, CallDid-then}
use Rattle.elf_hash.proofs.find_symbol.find.Goals as goal

pub returns-in_err-header-clause-did : goal.returns-in_err-header-clause-did
returns-in_err-header-clause-did g c =
    let p = err_from_is_err_and c.from_residual.result c.from_residual.ensures.1 in
    let most = header_most c.args.src.now.seen.size in
    rw (p.1, p.2)
    (CallDid-as _ (omega (arith, most)) (CallDid-of c.header.ensures.reads c.in_err-header.ensures.says c.in_err-header.ensures.read)
    (λ file read costs.
    let least = find_least file c.args.store.now.slots c.args.wanted.now in
    record { costs = costs _ (omega (arith, most, least)); finds = finds_header file _ _ _ read }))

pub returns-in_err-loaded-clause-did : goal.returns-in_err-loaded-clause-did
returns-in_err-loaded-clause-did g c =
    let p = err_from_is_err_and c.from_residual-in_err-loaded.result c.from_residual-in_err-loaded.ensures.1 in
    let most = header_most c.args.src.now.seen.size in
    let slots = load_slots c.in_ok-header.header c.header.new.src.seen.size c.args.store.now.slots in
    rw (p.1, p.2)
    (CallDid-as _ (omega (arith, most, slots))
    (CallDid-then (CallDid-of c.header.ensures.reads tt c.in_ok-header.ensures.read)
    (CallDid-sized (CallDid-of c.load.ensures.reads c.in_err-loaded.ensures.says c.in_err-loaded.ensures.held)))
    (λ file told costs.
    let within = load_within file _ _ c.args.store.now.slots c.args.wanted.now told.0.1 (sym told.1.0) told.0.0 in
    record { costs = costs _ (omega (arith, most, within)); finds = finds_load file _ _ _ c.load.new.store told.0.0 c.load.ensures.slots (told.1.1 told.0.1) }))

pub returns-clause-did : goal.returns-clause-did
returns-clause-did g c =
    let most = header_most c.args.src.now.seen.size in
    let slots = load_slots c.in_ok-header.header c.header.new.src.seen.size c.args.store.now.slots in
    let headers = load_most c.in_ok-header.header c.header.new.src.seen.size c.args.store.now.slots in
    let loaded = CallDid-then (CallDid-of c.header.ensures.reads tt c.in_ok-header.ensures.read) (CallDid-of c.load.ensures.reads tt c.in_ok-loaded.ensures.held) in
    let same = ap (λ (size : ℕ). after_headers_bytes (size / 4) (length c.args.wanted.now)) loaded.costs.reads.keeps.same_size in
    CallDid-as _ (omega (arith, most, slots, same)) (CallDid-then loaded c.find_in.ensures.did)
    (λ file told costs.
    let belongs = told.0.1 told.0.0.1 in
    let load = ap (λ (n : ℕ). first_refusal (load_checks file n)) (sym c.load.ensures.slots) ∙ belongs.passes in
    let passed : Passed file c.args.store.now.slots = record { header = told.0.0.0; load = load } in
    let behind = told.1 belongs in
    let cost = cost_after file c.args.store.now.slots c.args.wanted.now passed in
    let finds = rw (← looked_passed file c.args.store.now.slots c.args.wanted.now passed) at behind.finds in
    record { costs = CallReads-then _ (omega (arith, most, headers, cost, told.0.0.1.e_shnum)) loaded.costs behind.costs; finds = finds })
