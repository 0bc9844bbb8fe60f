-- The load, and the result by the headers.
use Rattle.std.proofs.Common.{Ok, ap, sym, ◌∙◌, arith}
use Rattle.std.proofs.lemmas.Result.{err_from_is_err_and}
use Rattle.elf_table.proofs.LedgerLaws.{CallDid-as}
use Rattle.elf_library.proofs.LinkedLaws.{linked_is, linked_stops}
use Rattle.elf_library.proofs.linked_file.shown_linked.Goals as goal

pub returns-in_err-loaded-clause-did : goal.returns-in_err-loaded-clause-did
returns-in_err-loaded-clause-did g c =
    let p = err_from_is_err_and c.from_residual.result c.from_residual.ensures.1 in
    rw (p.1, p.2)
    (CallDid-as _ (omega arith) c.in_err-loaded.ensures.did
    (λ file told costs none. linked_stops file c.args.store.now.slots _ c.load_by_segments.new.store (told none).loads))

pub returns-clause-did : goal.returns-clause-did
returns-clause-did g c =
    CallDid-as _ (omega arith) c.in_ok-loaded.ensures.did
    (λ file told costs none.
    let loads = (told none).loads in
    linked_is file c.args.store.now.slots loads.0 ∙ ap Ok (sym (c.is_linked_view.ensures file loads.1)))
