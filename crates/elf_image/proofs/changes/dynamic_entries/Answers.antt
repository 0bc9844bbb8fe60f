-- The entries of the first program header of dynamic entries.
use Rattle.std.proofs.Common.{◌/◌, ap, sym, ◌∙◌, arith}
use Rattle.std.proofs.lemmas.Result.{err_from_is_err_and}
use Rattle.elf_model.specs.Prelude.{p_filesz, p_offset, segment_at, segment_dynamic_checks}
use Rattle.elf_table.specs.Prelude.{TableRange, rows}
use Rattle.elf_table.proofs.Absent.{none-of}
use Rattle.elf_table.proofs.LedgerLaws.{CallDid-as, CallDid-none, CallDid-stop}
use Rattle.elf_hash.proofs.FoundLaws.{asked_within, dynamic_is, index_is, size_within}
use Rattle.elf_hash.proofs.SettleLaws.{checked_fails}
use Rattle.elf_image.specs.Located.{AreImageRows, AreRowsAt}
use Rattle.elf_image.proofs.ToldSteps.{header_refused, rows_fail, rows_found, rows_without}
use Rattle.elf_image.proofs.changes.dynamic_entries.Goals as goal

pub returns-in_default-clause-did : goal.returns-in_default-clause-did
returns-in_default-clause-did g c =
    CallDid-as _ (omega arith) (CallDid-none c.args.src.now) (λ file told costs views.
    let none = index_is file ∙ (sym (c.first_segment.ensures.first file views) ∙ none-of c.first_segment.result c.in_default.not-Some) in
    (costs _ (omega arith), rows_without file c.no_rows.result none c.no_rows.ensures.count c.no_rows.ensures.none))

pub returns-in_err-table-clause-did : goal.returns-in_err-table-clause-did
returns-in_err-table-clause-did g c =
    let p = err_from_is_err_and c.from_residual.result c.from_residual.ensures.1 in
    rw (p.1, p.2)
    (CallDid-as _ (omega arith) (CallDid-stop _ c.in_err-table.ensures.lies (CallDid-none c.args.src.now)) (λ file told costs views.
    let some = index_is file ∙ (sym (c.first_segment.ensures.first file views) ∙ c.in-Some.is) in
    let at = segment_at file c.in-Some.segment in (
      costs _ (omega arith),
      header_refused file c.in-Some.segment some (AreRowsAt file) _
          (checked_fails (segment_dynamic_checks file at) (rows (p_offset file at) (p_filesz file at / 16) 16) _ (c.in_err-table.ensures.held file views)),
    )))

pub returns-in_err-rows-clause-did : goal.returns-in_err-rows-clause-did
returns-in_err-rows-clause-did g c =
    let p = err_from_is_err_and c.from_residual-in_err-rows.result c.from_residual-in_err-rows.ensures.1 in
    let fits = size_within _ _ c.in_ok-table.ensures.lies.within in
    rw (p.1, p.2)
    (CallDid-as _ (omega (arith, fits, c.requires)) c.in_err-rows.ensures.did (λ file told costs views.
    let some = index_is file ∙ (sym (c.first_segment.ensures.first file views) ∙ c.in-Some.is) in
    let held = c.in_ok-table.ensures.held file views in
    let is = dynamic_is file _ some _ held in
    let at = segment_at file c.in-Some.segment in
    let reads = told at (sym (ap (λ (t : TableRange). t.at) is.1)) (sym (ap (λ (t : TableRange). t.count) is.1)) in
    (costs _ (asked_within file _ some _ held), rows_fail file c.in-Some.segment some is.0 (AreImageRows file at) (AreRowsAt file) _ reads)))

pub returns-clause-did : goal.returns-clause-did
returns-clause-did g c =
    let fits = size_within _ _ c.in_ok-table.ensures.lies.within in
    CallDid-as _ (omega (arith, fits, c.requires)) c.in_ok-rows.ensures.did (λ file told costs views.
    let some = index_is file ∙ (sym (c.first_segment.ensures.first file views) ∙ c.in-Some.is) in
    let held = c.in_ok-table.ensures.held file views in
    let is = dynamic_is file _ some _ held in
    let at = segment_at file c.in-Some.segment in
    let reads = told at (sym (ap (λ (t : TableRange). t.at) is.1)) (sym (ap (λ (t : TableRange). t.count) is.1)) in
    (costs _ (asked_within file _ some _ held), rows_found file c.in-Some.segment some is.0 c.in_ok-rows.rows _ reads.0 reads.1 (c.segment.ensures.is_at file views).p_vaddr))
