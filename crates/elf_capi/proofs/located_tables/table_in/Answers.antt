-- The first segment of dynamic entries, and the table that its entries locate.
use Rattle.std.proofs.Common.{ap, sym, ◌∙◌, arith}
use Rattle.std.proofs.lemmas.Result.{err_from_is_err_and}
use Rattle.elf_table.specs.Tables.{TableRange}
use Rattle.elf_table.proofs.Absent.{none-of}
use Rattle.elf_table.proofs.LedgerLaws.{CallDid-as, CallDid-none, CallDid-stop}
use Rattle.elf_hash.proofs.EntryLaws.{entries_are}
use Rattle.elf_hash.proofs.FoundLaws.{asked_within, did_check, dynamic_is, index_is, size_within}
use Rattle.elf_capi.specs.LocatedTables.{as_location, table_apart}
use Rattle.elf_capi.proofs.LocatedLaws.{dynamic_returns, located_returns, none_returns, overlap_returns, read_returns}
use Rattle.elf_capi.proofs.located_tables.table_in.Goals as goal

pub returns-in_err-check_overlaps : goal.returns-in_err-check_overlaps
returns-in_err-check_overlaps g c =
    let p = err_from_is_err_and c.from_residual.result c.from_residual.ensures.1 in
    rw (p.1, p.2)
    (CallDid-as _ (omega arith) (CallDid-stop _ c.in_err-check_overlaps.ensures.refusal (CallDid-none c.args.src.now))
    (λ file told costs views. (costs _ (omega arith), overlap_returns file c.args.table _ (c.in_err-check_overlaps.ensures.held file views))))

pub returns-in_default : goal.returns-in_default
returns-in_default g c =
    CallDid-as _ (omega arith) (CallDid-none c.args.src.now)
    (λ file told costs views.
    let none = index_is file ∙ (sym (c.first_segment.ensures.first file views) ∙ none-of c.first_segment.result c.in_default.not-Some) in
    (costs _ (omega arith), none_returns file c.args.table (c.in_ok-check_overlaps.ensures.held file views) none))

pub returns-in_err-entries : goal.returns-in_err-entries
returns-in_err-entries g c =
    let p = err_from_is_err_and c.from_residual-in_err-entries.result c.from_residual-in_err-entries.ensures.1 in
    rw (p.1, p.2)
    (CallDid-as _ (omega arith) (CallDid-stop _ c.in_err-entries.ensures.lies (CallDid-none c.args.src.now))
    (λ file told costs views.
    let some = index_is file ∙ (sym (c.first_segment.ensures.first file views) ∙ c.in-Some.is) in
    (costs _ (omega arith), dynamic_returns file c.args.table (c.in_ok-check_overlaps.ensures.held file views) _ some _ (c.in_err-entries.ensures.held file views))))

pub returns-in_err-found : goal.returns-in_err-found
returns-in_err-found g c =
    let p = err_from_is_err_and c.from_residual-in_err-found.result c.from_residual-in_err-found.ensures.1 in
    let fits = size_within _ _ c.in_ok-entries.ensures.lies.within in
    rw (p.1, p.2)
    (CallDid-as _ (omega (arith, fits, c.requires.size)) c.in_err-found.ensures.did
    (λ file told costs views.
    let some = index_is file ∙ (sym (c.first_segment.ensures.first file views) ∙ c.in-Some.is) in
    (costs _ (asked_within file _ some _ (c.in_ok-entries.ensures.held file views)), read_returns as_location (table_apart file c.args.table) _ c.in_err-found.ensures.fault)))

pub returns : goal.returns
returns g c =
    let fits = size_within _ _ c.in_ok-entries.ensures.lies.within in
    CallDid-as _ (omega (arith, fits, c.requires.size)) (did_check c.located_table.result c.located_table.ensures.refusal c.in_ok-found.ensures.did)
    (λ file listed costs views.
    let some = index_is file ∙ (sym (c.first_segment.ensures.first file views) ∙ c.in-Some.is) in
    let held = c.in_ok-entries.ensures.held file views in
    let is = dynamic_is file _ some _ held in
    let are = entries_are file _ c.in_ok-entries.entries _ (sym (ap (λ (t : TableRange). t.at) is.1)) (sym (ap (λ (t : TableRange). t.count) is.1)) listed in
    (costs _ (asked_within file _ some _ held), located_returns file c.args.table (c.in_ok-check_overlaps.ensures.held file views) _ some is.0 _ (c.located_table.ensures.held file views _ are)))
