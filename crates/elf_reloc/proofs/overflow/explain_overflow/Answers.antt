-- The file header, the load, and what follows.
use Rattle.std.proofs.Common.{arith}
use Rattle.std.proofs.lemmas.Result.{err_from_is_err_and}
use Rattle.elf_model.specs.Overflow.{overflowed}
use Rattle.elf_table.proofs.LedgerLaws.{CallDid-as, CallDid-of, CallDid-then}
use Rattle.elf_table.proofs.LoadLaws.{header_most, load_slots}
use Rattle.elf_reloc.proofs.OverflowLaws.{header_stops, load_stops, loaded_stops}
use Rattle.elf_reloc.proofs.overflow.explain_overflow.Goals as goal

pub returns-in_err-header-clause-did : goal.returns-in_err-header-clause-did
returns-in_err-header-clause-did g c =
    let p = err_from_is_err_and c.from_residual.result c.from_residual.ensures.1 in
    let most = header_most c.args.src.now.seen.size in
    rw (p.1, p.2)
    (CallDid-as _ (omega (arith, most)) (CallDid-of c.header.ensures.reads c.in_err-header.ensures.says c.in_err-header.ensures.read)
    (λ file read costs. header_stops file _ (overflowed file c.args.section c.args.layout.now c.args.at) _ _ read))

pub returns-in_err-loaded-clause-did : goal.returns-in_err-loaded-clause-did
returns-in_err-loaded-clause-did g c =
    let p = err_from_is_err_and c.from_residual-in_err-loaded.result c.from_residual-in_err-loaded.ensures.1 in
    let most = header_most c.args.src.now.seen.size in
    let slots = load_slots c.in_ok-header.header c.header.new.src.seen.size c.args.store.now.slots in
    rw (p.1, p.2)
    (CallDid-as _ (omega (arith, most, slots))
    (CallDid-then (CallDid-of c.header.ensures.reads tt c.in_ok-header.ensures.read) (CallDid-of c.load.ensures.reads c.in_err-loaded.ensures.says c.in_err-loaded.ensures.held))
    (λ file told costs. load_stops file _ (overflowed file c.args.section c.args.layout.now c.args.at) _ _ c.load.new.store told.0.0 c.load.ensures.slots (told.1 told.0.1)))

pub returns-clause-did : goal.returns-clause-did
returns-clause-did g c =
    let most = header_most c.args.src.now.seen.size in
    let slots = load_slots c.in_ok-header.header c.header.new.src.seen.size c.args.store.now.slots in
    let loaded = CallDid-then (CallDid-of c.header.ensures.reads tt c.in_ok-header.ensures.read) (CallDid-of c.load.ensures.reads tt c.in_ok-loaded.ensures.held) in
    CallDid-as _ (omega (arith, most, slots)) (CallDid-then loaded c.overflow_loaded.ensures)
    (λ file told costs. loaded_stops file _ _ c.overflow_loaded.result _ (told.1 (told.0.1 told.0.0.1)))
