-- Its bytes are within the file, the last is a NUL, and the path is read.
use Rattle.std.proofs.Common.{◌∙◌, arith}
use Rattle.std.proofs.lemmas.Result.{err_from_is_err_and}
use Rattle.elf_table.proofs.LedgerLaws.{CallDid-as, CallDid-none, CallDid-stop, CallDid-then}
use Rattle.elf_model.specs.Prelude.{segment_at}
use Rattle.elf_library.proofs.InterpreterLaws.{end_stops, path_tells, place_is, range_stops}
use Rattle.elf_library.proofs.interpreter.interpreter_at.Goals as goal

pub returns-in_err-names : goal.returns-in_err-names
returns-in_err-names g c =
    let p = err_from_is_err_and c.from_residual.result c.from_residual.ensures.1 in
    rw (p.1, p.2)
    (CallDid-as _ (omega arith) (CallDid-stop _ c.in_err-names.ensures.refusal (CallDid-none c.args.src.now))
    (λ file told costs views.
    let place = c.place-place.ensures.value ∙ place_is file _ _ c.args.segment views in
    let size = c.size.ensures ∙ views.belongs.size in
    range_stops file (segment_at file c.args.segment) _ (rw (place, size) at (c.in_err-names.ensures.value file _ (c.segment.ensures.is_at file views)))))

pub returns-in_err-check_end : goal.returns-in_err-check_end
returns-in_err-check_end g c =
    let p = err_from_is_err_and c.from_residual-in_err-check_end.result c.from_residual-in_err-check_end.ensures.1 in
    rw (p.1, p.2)
    (CallDid-as _ (omega arith) c.in_err-check_end.ensures
    (λ file told costs views.
    let place = c.place-place.ensures.value ∙ place_is file _ _ c.args.segment views in
    let size = c.size.ensures ∙ views.belongs.size in
    end_stops file (segment_at file c.args.segment) c.in_ok-names.names (rw (place, size) at (c.in_ok-names.ensures.value file _ (c.segment.ensures.is_at file views))) _ place _ told))

pub returns : goal.returns
returns g c =
    CallDid-as _ (omega arith) (CallDid-then c.in_ok-check_end.ensures c.whole_name.ensures)
    (λ file told costs views.
    let place = c.place-place.ensures.value ∙ place_is file _ _ c.args.segment views in
    let size = c.size.ensures ∙ views.belongs.size in
    path_tells file (segment_at file c.args.segment) c.in_ok-names.names (rw (place, size) at (c.in_ok-names.ensures.value file _ (c.segment.ensures.is_at file views))) _ place
    c.whole_name.new.name _ told.0 told.1)
