-- The first PT_DYNAMIC segment, and the result by its entries.
use Rattle.std.proofs.Common.{ap, sym, ◌∙◌, arith}
use Rattle.std.proofs.lemmas.Result.{err_from_is_err_and}
use Rattle.elf_table.specs.Tables.{TableRange}
use Rattle.elf_table.proofs.LedgerLaws.{CallDid-as, CallDid-none, CallDid-stop}
use Rattle.elf_hash.proofs.EntryLaws.{entries_are}
use Rattle.elf_hash.proofs.FoundLaws.{asked_within, did_check, dynamic_is, dynamic_refused, index_is, read_finds, segment_finds, segments_none, size_within}
use Rattle.elf_table.proofs.Absent.{none-of}
use Rattle.elf_hash.proofs.by_segments.in_segments.Goals as goal

pub returns-in_default : goal.returns-in_default
returns-in_default g c = record {
  did =
      rw c.refused.ensures
      (CallDid-as _ (omega arith) (CallDid-stop _ (λ budget. cc) (CallDid-none c.args.src.now))
      (λ file told costs views.
      let none = index_is file ∙ (sym (c.first_segment.ensures.first file views) ∙ none-of c.first_segment.result c.in_default.not-Some) in
      (costs _ (omega arith), λ other. segments_none file none)));
  within = rw c.refused.ensures tt;
}

pub returns-in_err-table : goal.returns-in_err-table
returns-in_err-table g c =
    let p = err_from_is_err_and c.from_residual.result c.from_residual.ensures.1 in
    record {
      did =
          rw (p.1, p.2)
          (CallDid-as _ (omega arith) (CallDid-stop _ c.in_err-table.ensures.lies (CallDid-none c.args.src.now))
          (λ file told costs views.
          let some = index_is file ∙ (sym (c.first_segment.ensures.first file views) ∙ c.in-Some.is) in
          (costs _ (omega arith), dynamic_refused file _ some _ (c.in_err-table.ensures.held file views))));
      within = rw p.1 tt;
    }

pub returns-in_err-found : goal.returns-in_err-found
returns-in_err-found g c =
    let p = err_from_is_err_and c.from_residual-in_err-found.result c.from_residual-in_err-found.ensures.1 in
    let fits = size_within _ _ c.in_ok-table.ensures.lies.within in
    record {
      did =
          rw (p.1, p.2)
          (CallDid-as _ (omega (arith, fits, c.requires.size)) c.in_err-found.ensures.did
          (λ file told costs views.
          let some = index_is file ∙ (sym (c.first_segment.ensures.first file views) ∙ c.in-Some.is) in
          (costs _ (asked_within file _ some _ (c.in_ok-table.ensures.held file views)), read_finds file _ c.in_err-found.ensures.fault)));
      within = rw p.1 tt;
    }

pub returns : goal.returns
returns g c =
    let fits = size_within _ _ c.in_ok-table.ensures.lies.within in
    record {
      did =
          CallDid-as _ (omega (arith, fits, c.requires.size)) (did_check c.by_entries.result c.by_entries.ensures.refusal c.in_ok-found.ensures.did)
          (λ file listed costs views.
          let some = index_is file ∙ (sym (c.first_segment.ensures.first file views) ∙ c.in-Some.is) in
          let held = c.in_ok-table.ensures.held file views in
          let is = (dynamic_is file _ some _ held).1 in
          let are = entries_are file _ c.in_ok-table.table _ (sym (ap (λ (t : TableRange). t.at) is)) (sym (ap (λ (t : TableRange). t.count) is)) listed in
          (costs _ (asked_within file _ some _ held), segment_finds file _ some _ held _ (c.by_entries.ensures.held file views are)));
      within = c.by_entries.ensures.within;
    }
