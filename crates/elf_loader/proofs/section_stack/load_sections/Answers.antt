-- The file header, and the section headers.
use Rattle.std.proofs.Common.{ℕ, sym, ap, ◌∙◌, arith}
use Rattle.std.proofs.lemmas.Result.{err_from_is_err_and}
use Rattle.elf_table.proofs.LoadLaws.{header_most, load_slots}
use Rattle.elf_table.proofs.LedgerLaws.{CallDid-as, CallDid-of, CallDid-sized, CallDid-then}
use Rattle.elf_loader.proofs.StackLaws.{asked_least, header_stops, load_says, loads_told}
use Rattle.elf_loader.proofs.section_stack.load_sections.Goals as goal

pub returns-in_err-header-clause-did : goal.returns-in_err-header-clause-did
returns-in_err-header-clause-did g c =
    let p = err_from_is_err_and c.from_residual.result c.from_residual.ensures.1 in
    let most = header_most c.args.src.now.seen.size in
    rw (p.1, p.2)
    (CallDid-as _ (omega (arith, most)) (CallDid-of c.header.ensures.reads c.in_err-header.ensures.says c.in_err-header.ensures.read)
    (λ file read costs.
    let least = asked_least file c.args.store.now.slots in
    record { costs = costs _ (omega (arith, most, least)); loads = header_stops file c.args.store.now.slots c.args.store.now _ read }))

pub returns-clause-did : goal.returns-clause-did
returns-clause-did g c =
    let most = header_most c.args.src.now.seen.size in
    let slots = load_slots c.in_ok-header.header c.header.new.src.seen.size c.args.store.now.slots in
    CallDid-as _ (omega (arith, most, slots))
    (CallDid-then (CallDid-of c.header.ensures.reads tt c.in_ok-header.ensures.read) (CallDid-sized (CallDid-of c.load.ensures.reads (load_says _ _ _ c.load.result c.load.ensures.says) c.load.ensures.held)))
    (λ file told costs.
    loads_told file c.args.store.now.slots c.in_ok-header.header c.header.new.src.seen.size _ c.load.new.store c.load.result most (λ n low. costs n low) told.0.0 told.0.1 (sym told.1.0) c.load.ensures.slots
    (told.1.1 told.0.1))
