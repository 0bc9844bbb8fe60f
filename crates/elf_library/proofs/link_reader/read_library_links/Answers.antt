-- A file that is refused, one that is a program, and one that is a library.
use Rattle.std.proofs.Common.{arith}
use Rattle.std.proofs.lemmas.Result.{err_from_is_err_and}
use Rattle.elf_table.proofs.LedgerLaws.{CallDid-as, CallDid-stop}
use Rattle.elf_library.proofs.LibraryLaws.{library_is, library_stops, program_stops}
use Rattle.elf_library.proofs.link_reader.read_library_links.Goals as goal

pub returns-in_err-found-clause-did : goal.returns-in_err-found-clause-did
returns-in_err-found-clause-did g c =
    let p = err_from_is_err_and c.from_residual.result c.from_residual.ensures.1 in
    rw (p.1, p.2)
    (CallDid-as _ (omega arith) c.in_err-found.ensures.did
    (λ file told costs. library_stops file c.args.store.now.slots c.args.links.now.held.room c.args.links.now c.args.links.now _ told.0))

pub returns-then-found-clause-did : goal.returns-then-found-clause-did
returns-then-found-clause-did g c =
    rw c.refused.ensures
    (CallDid-as _ (omega arith) (CallDid-stop _ (λ budget. cc budget) c.in_ok-found.ensures.did)
    (λ file told costs. program_stops file c.args.store.now.slots c.args.links.now.held.room c.args.links.now _ _ told.0 told.1 c.if-found.true))

pub returns-clause-did : goal.returns-clause-did
returns-clause-did g c =
    CallDid-as _ (omega arith) c.in_ok-found.ensures.did
    (λ file told costs. library_is file c.args.store.now.slots c.args.links.now.held.room c.args.links.now _ _ told.0 told.1 c.if-found.false)
