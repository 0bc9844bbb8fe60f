-- The first PT_DYNAMIC segment, and the result by its entries.
use Rattle.std.proofs.Common.{ap, sym, ◌∙◌, arith}
use Rattle.std.proofs.lemmas.Result.{err_from_is_err_and}
use Rattle.elf_table.specs.Tables.{TableRange}
use Rattle.elf_table.proofs.LedgerLaws.{CallDid-as, CallDid-none, CallDid-stop}
use Rattle.elf_hash.proofs.FoundLaws.{dynamic_is, index_is, size_within}
use Rattle.elf_table.proofs.Absent.{none-of}
use Rattle.elf_loader.proofs.EntryLaws.{entries_refused, entries_within}
use Rattle.elf_loader.proofs.FindingLaws.{listed_did, listed_finds}
use Rattle.elf_loader.proofs.ValueLaws.{values_none}
use Rattle.elf_loader.proofs.trait_tags.trait_entries.Goals as goal

pub returns-in_default : goal.returns-in_default
returns-in_default g c =
    rw c.nothing.ensures
    (CallDid-as _ (omega arith) (CallDid-none c.args.src.now)
    (λ file told costs views.
    let none = index_is file ∙ (sym (c.first_segment.ensures.first file views) ∙ none-of c.first_segment.result c.in_default.not-Some) in
    record { costs = costs _ (omega arith); finds = values_none file none }))

pub returns-in_err-table : goal.returns-in_err-table
returns-in_err-table g c =
    let p = err_from_is_err_and c.from_residual.result c.from_residual.ensures.1 in
    rw (p.1, p.2)
    (CallDid-as _ (omega arith) (CallDid-stop _ c.in_err-table.ensures.lies (CallDid-none c.args.src.now))
    (λ file told costs views.
    let some = index_is file ∙ (sym (c.first_segment.ensures.first file views) ∙ c.in-Some.is) in
    record { costs = costs _ (omega arith); finds = entries_refused file _ some _ (c.in_err-table.ensures.held file views) }))

pub returns : goal.returns
returns g c =
    let fits = size_within _ _ c.in_ok-table.ensures.lies.within in
    let e = c.listed_values.ensures in
    CallDid-as _ (omega (arith, fits, c.requires)) (listed_did c.in_ok-table.table c.listed_values.result e.reads e.says e.fault e.found)
    (λ file listed costs views.
    let some = index_is file ∙ (sym (c.first_segment.ensures.first file views) ∙ c.in-Some.is) in
    let held = c.in_ok-table.ensures.held file views in
    let is = (dynamic_is file _ some _ held).1 in
    record {
      costs = costs _ (entries_within file _ some _ held);
      finds = listed_finds file _ some c.in_ok-table.table (sym (ap (λ (t : TableRange). t.at) is)) (sym (ap (λ (t : TableRange). t.count) is)) _ listed;
    })
