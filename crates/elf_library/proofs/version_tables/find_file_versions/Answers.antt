-- The load, and what follows.
use Rattle.std.proofs.Common.{arith}
use Rattle.std.proofs.lemmas.Result.{err_from_is_err_and}
use Rattle.elf_table.proofs.LedgerLaws.{CallDid-as, CallDid-then}
use Rattle.elf_library.proofs.VersionTableLaws.{headers_stop, versions_as}
use Rattle.elf_library.proofs.version_tables.find_file_versions.Goals as goal

pub returns-in_err-loaded-clause-did : goal.returns-in_err-loaded-clause-did
returns-in_err-loaded-clause-did g c =
    let p = err_from_is_err_and c.from_residual.result c.from_residual.ensures.1 in
    rw (p.1, p.2)
    (CallDid-as _ (omega arith) c.in_err-loaded.ensures.did (λ file told costs none. headers_stop file c.args.store.now.slots _ c.load_by_segments.new.store (told none).loads))

pub returns-clause-did : goal.returns-clause-did
returns-clause-did g c =
    let first = c.in_ok-loaded.ensures.did in
    let same = first.costs.reads.keeps.same_size in
    CallDid-as _ (omega (arith, same)) (CallDid-then first c.versions_by_segments.ensures.did)
    (λ file told costs none. let loads = (told.0 none).loads in versions_as file c.args.store.now.slots c.versions_by_segments.result (told.1 loads.1))
