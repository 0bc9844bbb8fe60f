-- The first program header of the type, and its path.
use Rattle.std.proofs.Common.{sym, ◌∙◌, arith}
use Rattle.std.proofs.lemmas.Result.{err_from_is_err_and}
use Rattle.elf_table.proofs.Absent.{none-of}
use Rattle.elf_table.proofs.LedgerLaws.{CallDid-as, CallDid-none}
use Rattle.elf_library.proofs.InterpreterLaws.{named, named_stops, unnamed}
use Rattle.elf_library.proofs.interpreter.interpreter_by_segments.Goals as goal

pub returns-in_default : goal.returns-in_default
returns-in_default g c =
    CallDid-as _ (omega arith) (CallDid-none c.args.src.now)
    (λ file told costs views. unnamed file (sym (c.first_segment.ensures.first file views) ∙ none-of c.first_segment.result c.in_default.not-Some))

pub returns-in_err-interpreter_at : goal.returns-in_err-interpreter_at
returns-in_err-interpreter_at g c =
    let p = err_from_is_err_and c.from_residual.result c.from_residual.ensures.1 in
    rw (p.1, p.2)
    (CallDid-as _ (omega arith) c.in_err-interpreter_at.ensures
    (λ file told costs views. named_stops file _ (sym (c.first_segment.ensures.first file views) ∙ c.in-Some.is) c.interpreter_at.new.path _ (told views)))

pub returns : goal.returns
returns g c =
    CallDid-as _ (omega arith) c.in_ok-interpreter_at.ensures
    (λ file told costs views. named file _ (sym (c.first_segment.ensures.first file views) ∙ c.in-Some.is) _ (told views))
