-- The last byte is read, and refused unless it is a NUL.
use Rattle.std.proofs.Common.{sym, ◌∙◌, arith}
use Rattle.elf_table.proofs.LedgerLaws.{CallDid-as, CallDid-of, CallDid-stop}
use Rattle.elf_table.specs.declared.fault.Fault.TheVariants.{Refused}
use Rattle.elf_model.specs.declared.causes.Cause.TheVariants.{NameUnended}
use Rattle.elf_library.proofs.InterpreterLaws.{end_fails, end_passes}
use Rattle.elf_library.proofs.interpreter.check_end.Goals as goal

pub returns-then-not-is_nul : goal.returns-then-not-is_nul
returns-then-not-is_nul g c =
    rw c.refused.ensures
    (CallDid-as _ (omega arith) (CallDid-stop (Refused (record { at = c.args.place; cause = NameUnended })) (λ budget. cc) (CallDid-of c.fill.ensures.reads tt c.in_ok-fill.ensures.read))
    (λ file read costs unless.
    end_fails file _ c.args.path c.args.place _ read (omega (arith, c.at.ensures.value, c.size.ensures.value, c.requires.some)) (sym c.is_nul.ensures ∙ c.if-not-is_nul.true)))

pub returns : goal.returns
returns g c =
    CallDid-as _ (omega arith) (CallDid-of c.fill.ensures.reads tt c.in_ok-fill.ensures.read)
    (λ file read costs.
    end_passes file _ c.args.path c.args.place _ read (omega (arith, c.at.ensures.value, c.size.ensures.value, c.requires.some)) (sym c.is_nul.ensures ∙ c.if-not-is_nul.false))
