-- The headers, what the dynamic entries say, and the start of the walk.
use Rattle.std.proofs.Common.{ℕ, List, ◌++◌, Result, Err, refl}
use Rattle.std.proofs.lemmas.Result.{err_from_is_err_and}
use Rattle.elf_model.specs.ImageChecks.{kind_checks, segments_load_checks}
use Rattle.elf_model.specs.Overlaps.{overlap_checks}
use Rattle.elf_table.specs.declared.fault.Fault.{Fault}
use Rattle.elf_image.specs.Missing.{BeginsMissing, missing_source, some_items}
use Rattle.elf_image.specs.Relocated.{SaysRelocations, entries_header, relocation_checks}
use Rattle.elf_image.proofs.MissingSteps.{begins_missing, image_of, opens_failed, opens_passed, opens_refused}
use Rattle.elf_image.proofs.ReadSteps.{unread_checked}
use Rattle.elf_image.proofs.missing.MissingEntries.open.Goals as goal

pub returns-clause-alive : goal.returns-clause-alive
returns-clause-alive g c =
    let within = c.in_ok-told.ensures.within in
    record { image = within; walk = c.new-walk.ensures.alive _ within }

pub returns-in_err-check_headers-clause-costs : goal.returns-in_err-check_headers-clause-costs
returns-in_err-check_headers-clause-costs g c =
    let p = err_from_is_err_and c.from_residual.result c.from_residual.ensures.1 in
    let stopped : Result (Unit {0}) Fault = Err c.in_err-check_headers.field-0.0 in
    rw (p.1, p.2) (unread_checked c.args.src.now c.args.src.now.seen.size stopped c.in_err-check_headers.ensures.refusal)

pub returns-in_err-check_headers-clause-opens : goal.returns-in_err-check_headers-clause-opens
returns-in_err-check_headers-clause-opens g c = λ file held views.
    let p = err_from_is_err_and c.from_residual.result c.from_residual.ensures.1 in
    rw (p.1, p.2)
    (opens_refused (BeginsMissing file (some_items c.args.items.now)) (overlap_checks file ++ kind_checks file ++ segments_load_checks file) (relocation_checks file) _ (c.in_err-check_headers.ensures.held file views))

pub returns-in_err-told-clause-opens : goal.returns-in_err-told-clause-opens
returns-in_err-told-clause-opens g c = λ file held views.
    let p = err_from_is_err_and c.from_residual-in_err-told.result c.from_residual-in_err-told.ensures.1 in
    let told = c.in_err-told.ensures.did.known file held views in
    rw (p.1, p.2)
    (opens_failed (SaysRelocations file (entries_header file)) (BeginsMissing file (some_items c.args.items.now)) (overlap_checks file ++ kind_checks file ++ segments_load_checks file) (relocation_checks file) _ (c.in_ok-check_headers.ensures.held file views) told.1)

pub returns-clause-opens : goal.returns-clause-opens
returns-clause-opens g c = λ file held views.
    let told = c.in_ok-told.ensures.did.known file held views in
    let passes = c.in_ok-check_headers.ensures.held file views in
    let source = λ (whole : List ℕ). missing_source whole file (some_items c.args.items.now) in (
      opens_passed file passes told.1.0,
      λ whole.
          begins_missing whole file (some_items c.args.items.now) _ refl
          (image_of file passes whole (some_items c.args.items.now) _ views refl c.base.ensures told.1.1 (c.new.ensures file _)) (c.new-walk.ensures.known (source whole)) c.new-walk.ensures.wanted (c.new-walk.ensures.begins (source whole)),
    )

pub returns-clause-asks : goal.returns-clause-asks
returns-clause-asks g c = λ file held views. (c.in_ok-told.ensures.did.known file held views).0
