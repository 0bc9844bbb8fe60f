-- The name is read, and refused if it is longer.
use Rattle.std.proofs.Common.{arith}
use Rattle.std.proofs.lemmas.Result.{err_from_is_err_and}
use Rattle.elf_table.proofs.LedgerLaws.{CallDid-as, CallDid-of, CallDid-stop}
use Rattle.elf_table.specs.Prelude.{strings_in}
use Rattle.elf_table.specs.declared.fault.Fault.TheVariants.{Refused}
use Rattle.elf_model.specs.declared.causes.Cause.TheVariants.{TooLong}
use Rattle.elf_library.proofs.SoughtLaws.{whole_cut, whole_fault, whole_is}
use Rattle.elf_library.proofs.reference.whole_name.Goals as goal

pub returns-in_err-read : goal.returns-in_err-read
returns-in_err-read g c =
    let p = err_from_is_err_and c.from_residual.result c.from_residual.ensures.1 in
    rw (p.1, p.2)
    (CallDid-as _ (omega arith) (CallDid-of c.in_err-read.ensures.reads c.in_err-read.ensures.says c.in_err-read.ensures.read)
    (λ file read costs. whole_fault (strings_in file c.args.names) c.args.off c.args.at _ read))

pub returns-in-Whole : goal.returns-in-Whole
returns-in-Whole g c =
    CallDid-as _ (omega arith) (CallDid-of c.in_ok-read.ensures.reads tt c.in_ok-read.ensures.read)
    (λ file read costs. whole_is (strings_in file c.args.names) c.args.off c.args.at c.read.new.name (rw c.in-Whole.is at read))

pub returns-in-Cut : goal.returns-in-Cut
returns-in-Cut g c =
    rw c.refused.ensures
    (CallDid-as _ (omega arith) (CallDid-stop (Refused (record { at = c.args.at; cause = TooLong })) (λ budget. cc) (CallDid-of c.in_ok-read.ensures.reads tt c.in_ok-read.ensures.read))
    (λ file read costs unless. whole_cut (strings_in file c.args.names) c.args.off c.args.at c.read.new.name (rw c.in-Cut.is at read)))
