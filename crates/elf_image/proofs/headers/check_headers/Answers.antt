-- The overlaps, the kind, the LOAD segments.
use Rattle.std.proofs.Common.{◌++◌}
use Rattle.std.proofs.lemmas.Result.{err_from_is_err_and}
use Rattle.elf_model.specs.ImageChecks.{kind_checks, segments_load_checks}
use Rattle.elf_model.specs.Overlaps.{overlap_checks}
use Rattle.elf_hash.proofs.SettleLaws.{passed_both, refused_back, refused_front}
use Rattle.elf_image.proofs.HeaderSteps.{decide_back}
use Rattle.elf_image.proofs.headers.check_headers.Goals as goal

pub returns-in_err-check_overlaps-clause-held : goal.returns-in_err-check_overlaps-clause-held
returns-in_err-check_overlaps-clause-held c = λ file views.
    let p = err_from_is_err_and c.from_residual.result c.from_residual.ensures.1 in
    rw (p.1, p.2)
    (refused_front (overlap_checks file ++ kind_checks file) (segments_load_checks file) _
    (refused_front (overlap_checks file) (kind_checks file) _ (c.in_err-check_overlaps.ensures.held file views)))

pub returns-in_err-check_kind-clause-held : goal.returns-in_err-check_kind-clause-held
returns-in_err-check_kind-clause-held c = λ file views.
    let p = err_from_is_err_and c.from_residual-in_err-check_kind.result c.from_residual-in_err-check_kind.ensures.1 in
    rw (p.1, p.2)
    (refused_front (overlap_checks file ++ kind_checks file) (segments_load_checks file) _
    (refused_back (overlap_checks file) (kind_checks file) _ (c.in_ok-check_overlaps.ensures.held file views) (c.in_err-check_kind.ensures.held file (rw c.header.ensures.value views.belongs.header))))

pub returns-clause-held : goal.returns-clause-held
returns-clause-held c = λ file views.
    decide_back (overlap_checks file ++ kind_checks file) (segments_load_checks file) c.check_loads.result
    (passed_both (overlap_checks file) (kind_checks file) (c.in_ok-check_overlaps.ensures.held file views) (c.in_ok-check_kind.ensures.held file (rw c.header.ensures.value views.belongs.header))) (c.check_loads.ensures.held file views)
