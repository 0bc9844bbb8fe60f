-- The file header, and the load.
use Rattle.std.proofs.Common.{arith, sym, ◌∙◌}
use Rattle.std.proofs.lemmas.Result.{err_from_is_err_and}
use Rattle.elf_table.proofs.LedgerLaws.{CallDid-as, CallDid-of, CallDid-sized, CallDid-then}
use Rattle.elf_table.proofs.LoadLaws.{header_most, load_slots}
use Rattle.elf_reloc.proofs.RangeSteps.{load_least, load_within, loads_as, loads_header, says_of}
use Rattle.elf_reloc.proofs.section_bytes.load_by_sections.Goals as goal

pub returns-in_err-header-clause-did : goal.returns-in_err-header-clause-did
returns-in_err-header-clause-did g c =
    let p = err_from_is_err_and c.from_residual.result c.from_residual.ensures.1 in
    let most = header_most c.args.src.now.seen.size in
    rw (p.1, p.2)
    (CallDid-as _ (omega (arith, most)) (CallDid-of c.header.ensures.reads c.in_err-header.ensures.says c.in_err-header.ensures.read)
    (λ file read costs. record { costs = costs _ (omega (arith, most, load_least file c.args.store.now.slots)); loads = loads_header file _ _ c.args.store.now read }))

pub returns-clause-did : goal.returns-clause-did
returns-clause-did g c =
    let most = header_most c.args.src.now.seen.size in
    let slots = load_slots c.in_ok-header.header c.header.new.src.seen.size c.args.store.now.slots in
    CallDid-as _ (omega (arith, most, slots))
    (CallDid-then (CallDid-of c.header.ensures.reads tt c.in_ok-header.ensures.read)
    (CallDid-sized (CallDid-of c.load.ensures.reads (says_of _ c.load.result c.load.ensures.says) c.load.ensures.held)))
    (λ file told costs.
    let within = load_within file c.args.store.now.slots c.in_ok-header.header _ told.0.1 (sym told.1.0) told.0.0 in
    record { costs = costs _ (omega (arith, most, within)); loads = loads_as file c.args.store.now.slots c.load.result c.load.new.store told.0.0 c.load.ensures.slots (told.1.1 told.0.1) })
