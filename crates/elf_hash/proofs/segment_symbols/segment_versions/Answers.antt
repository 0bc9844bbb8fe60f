-- The versym entries, then the definitions, then the needs.
use Rattle.std.proofs.Common.{rules, ap, refl}
use Rattle.std.proofs.lemmas.Result.{err_from_is_err_and}
use Rattle.elf_model.specs.Numbers.{DT_VERDEF, DT_VERNEED}
use Rattle.elf_table.specs.Tables.{TableRange}
use Rattle.elf_table.proofs.Absent.{none-of}
use Rattle.elf_hash.proofs.SegmentLaws.{definition_row_refused, need_row_refused, rows_none, rows_versions, words_row_refused}
use Rattle.elf_hash.proofs.SettleLaws.{finds, refuses}
use Rattle.elf_hash.proofs.segment_symbols.segment_versions.Goals as goal

pub returns-in_default : goal.returns-in_default
returns-in_default c = finds _ (search rules) (λ bytes views at are names.
    rows_none bytes c.args.segment at c.words_entry.result _ (c.words_entry.ensures bytes at are) (none-of c.words_entry.result c.in_default.not-Some) refl refl refl)

pub returns-in_err-rest : goal.returns-in_err-rest
returns-in_err-rest c =
    let p = err_from_is_err_and c.from_residual.result c.from_residual.ensures.1 in
    rw (p.1, p.2) (refuses _ c.in_err-rest.ensures.lies (λ bytes views at are names.
    (words_row_refused bytes c.args.segment at c.words_entry.result _ (c.words_entry.ensures bytes at are) c.in-Some.is _ (c.in_err-rest.ensures.value bytes views))))

pub returns-in_err-definitions : goal.returns-in_err-definitions
returns-in_err-definitions c =
    let p = err_from_is_err_and c.from_residual-in_err-definitions.result c.from_residual-in_err-definitions.ensures.1 in
    rw (p.1, p.2) (refuses _ c.in_err-definitions.ensures.refusal (λ bytes views at are names.
    (definition_row_refused bytes c.args.segment at c.words_entry.result _ (c.words_entry.ensures bytes at are) c.in-Some.is _ _ (c.in_ok-rest.ensures.value bytes views) (c.in_err-definitions.ensures.held bytes views at DT_VERDEF are.verdef names))))

pub returns-in_err-needs : goal.returns-in_err-needs
returns-in_err-needs c =
    let p = err_from_is_err_and c.from_residual-in_err-needs.result c.from_residual-in_err-needs.ensures.1 in
    rw (p.1, p.2) (refuses _ c.in_err-needs.ensures.refusal (λ bytes views at are names.
    (need_row_refused bytes c.args.segment at c.words_entry.result _ (c.words_entry.ensures bytes at are) c.in-Some.is _ _ (c.in_ok-rest.ensures.value bytes views) (c.in_ok-definitions.ensures.held bytes views at DT_VERDEF are.verdef names).0
    (c.in_err-needs.ensures.held bytes views at DT_VERNEED are.verneed names))))

pub returns : goal.returns
returns c = finds _ (search rules) (λ bytes views at are names.
    let row = c.rows_in.ensures in
    rows_versions bytes c.args.segment at c.words_entry.result _ (c.words_entry.ensures bytes at are) c.in-Some.is _ _ _ (c.in_ok-rest.ensures.value bytes views)
    (ap (λ (t : TableRange). t.at) row) (ap (λ (t : TableRange). t.count) row) refl refl refl
    (c.in_ok-definitions.ensures.held bytes views at DT_VERDEF are.verdef names) (c.in_ok-needs.ensures.held bytes views at DT_VERNEED are.verneed names))
