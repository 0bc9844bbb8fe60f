-- The first segment of dynamic entries, and the tables that they locate.
use Rattle.std.proofs.Common.{sym, ap, ◌∙◌, arith}
use Rattle.std.proofs.lemmas.Result.{err_from_is_err_and}
use Rattle.elf_model.specs.Records.{segment_at}
use Rattle.elf_table.specs.Tables.{TableRange}
use Rattle.elf_table.proofs.Absent.{none-of}
use Rattle.elf_table.proofs.LedgerLaws.{CallDid-as, CallDid-none, CallDid-stop}
use Rattle.elf_hash.proofs.EntryLaws.{entries_are}
use Rattle.elf_hash.proofs.FoundLaws.{did_check, dynamic_is, index_is, size_within}
use Rattle.elf_library.proofs.VersionTableLaws.{dynamic_stops, read_stops, versions_in, versions_none}
use Rattle.elf_library.proofs.version_tables.versions_by_segments.Goals as goal

pub returns-in_default-clause-did : goal.returns-in_default-clause-did
returns-in_default-clause-did g c =
    CallDid-as _ (omega arith) (CallDid-none c.args.src.now)
    (λ file told costs views. versions_none file (index_is file ∙ (sym (c.first_segment.ensures.first file views) ∙ none-of c.first_segment.result c.in_default.not-Some)))

pub returns-in_err-table-clause-did : goal.returns-in_err-table-clause-did
returns-in_err-table-clause-did g c =
    let p = err_from_is_err_and c.from_residual.result c.from_residual.ensures.1 in
    rw (p.1, p.2)
    (CallDid-as _ (omega arith) (CallDid-stop _ c.in_err-table.ensures.lies (CallDid-none c.args.src.now))
    (λ file told costs views.
    let some = index_is file ∙ (sym (c.first_segment.ensures.first file views) ∙ c.in-Some.is) in
    dynamic_stops file _ some _ (c.in_err-table.ensures.held file views)))

pub returns-in_err-found-clause-did : goal.returns-in_err-found-clause-did
returns-in_err-found-clause-did g c =
    let p = err_from_is_err_and c.from_residual-in_err-found.result c.from_residual-in_err-found.ensures.1 in
    let fits = size_within _ _ c.in_ok-table.ensures.lies.within in
    rw (p.1, p.2)
    (CallDid-as _ (omega (arith, fits, c.requires.size)) c.in_err-found.ensures.did (λ file told costs views. read_stops file _ c.in_err-found.ensures.fault))

pub returns-clause-did : goal.returns-clause-did
returns-clause-did g c =
    let fits = size_within _ _ c.in_ok-table.ensures.lies.within in
    CallDid-as _ (omega (arith, fits, c.requires.size)) (did_check c.versions_at.result c.versions_at.ensures.refusal c.in_ok-found.ensures.did)
    (λ file listed costs views.
    let some = index_is file ∙ (sym (c.first_segment.ensures.first file views) ∙ c.in-Some.is) in
    let is = dynamic_is file _ some _ (c.in_ok-table.ensures.held file views) in
    let are = entries_are file (segment_at file c.in-Some.segment) c.in_ok-table.table _ (sym (ap (λ (t : TableRange). t.at) is.1)) (sym (ap (λ (t : TableRange). t.count) is.1)) listed in
    versions_in file c.in-Some.segment some is.0 c.versions_at.result (c.versions_at.ensures.held file (segment_at file c.in-Some.segment) views are))
