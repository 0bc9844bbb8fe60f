-- The load, and what follows.
use Rattle.std.proofs.Common.{arith}
use Rattle.std.proofs.lemmas.Result.{err_from_is_err_and}
use Rattle.elf_table.proofs.LedgerLaws.{CallDid-as, CallDid-then}
use Rattle.elf_library.proofs.InterpreterLaws.{load_stops, loaded_is, named_as}
use Rattle.elf_library.proofs.interpreter.shown_interpreter.Goals as goal

pub returns-in_err-loaded-clause-did : goal.returns-in_err-loaded-clause-did
returns-in_err-loaded-clause-did g c =
    let p = err_from_is_err_and c.from_residual.result c.from_residual.ensures.1 in
    rw (p.1, p.2)
    (CallDid-as _ (omega arith) c.in_err-loaded.ensures.did
    (λ file told costs none. load_stops file c.args.store.now.slots c.args.path.now _ c.load_by_segments.new.store (told none).loads))

pub returns-clause-did : goal.returns-clause-did
returns-clause-did g c =
    CallDid-as _ (omega arith) (CallDid-then c.in_ok-loaded.ensures.did c.interpreter_by_segments.ensures)
    (λ file told costs none.
    let loads = (told.0 none).loads in
    named_as _ _ _ _ (loaded_is file c.args.store.now.slots loads.0) (told.1 loads.1))
