-- The record with the index is found, and its name is read.
use Rattle.std.proofs.Common.{[], arith}
use Rattle.std.proofs.lemmas.Result.{err_from_is_err_and}
use Rattle.elf_table.proofs.Absent.{none-of}
use Rattle.elf_table.proofs.LedgerLaws.{CallDid-as, CallDid-stop, CallDid-then}
use Rattle.elf_table.specs.declared.fault.Fault.TheVariants.{Refused}
use Rattle.elf_model.specs.Prelude.{naming_of}
use Rattle.elf_model.specs.declared.causes.Cause.TheVariants.{VersionIndex}
use Rattle.elf_loader.proofs.NamingLaws.{naming-nothing}
use Rattle.elf_library.proofs.SoughtLaws.{none_by, spelt_by, unnamed_by, unspelt_by}
use Rattle.elf_library.proofs.reference.by_number.Goals as goal

pub returns-in_err-named-clause-did : goal.returns-in_err-named-clause-did
returns-in_err-named-clause-did g c =
    let p = err_from_is_err_and c.from_residual.result c.from_residual.ensures.1 in
    rw (p.1, p.2)
    (CallDid-as _ (omega arith) c.in_err-named.ensures.did
    (λ file read costs told is. unnamed_by file told c.args.number c.args.at c.args.src.now c.name_of.new.src (naming_of file c.args.number []) _ (read told.records is.records)))

pub returns-in_default-clause-did : goal.returns-in_default-clause-did
returns-in_default-clause-did g c =
    let none = none-of c.in_ok-named.field-0 c.in_default.not-Some in
    rw c.refused.ensures
    (CallDid-as _ (omega arith) (CallDid-stop (Refused (record { at = c.args.at; cause = VersionIndex })) (λ budget. cc) (rw none at c.in_ok-named.ensures.did))
    (λ file read costs told is unless.
    none_by file told c.args.number c.args.at (naming_of file c.args.number []) (naming-nothing file c.args.number) (read told.records is.records)))

pub returns-in_err-whole_name-clause-did : goal.returns-in_err-whole_name-clause-did
returns-in_err-whole_name-clause-did g c =
    let p = err_from_is_err_and c.from_residual-in_err-whole_name.result c.from_residual-in_err-whole_name.ensures.1 in
    let off = c.from-off.ensures in
    rw (p.1, p.2)
    (CallDid-as _ (omega arith) (CallDid-then (rw c.in-Some.is at c.in_ok-named.ensures.did) c.in_err-whole_name.ensures)
    (λ file read costs told is.
    unspelt_by file told c.args.number c.args.at c.args.src.now c.name_of.new.src (naming_of file c.args.number []) c.in-Some.named c.whole_name.new.name _ (read.0 told.records is.records) (rw off at read.1)))

pub returns-clause-did : goal.returns-clause-did
returns-clause-did g c =
    let off = c.from-off.ensures in
    CallDid-as _ (omega arith) (CallDid-then (rw c.in-Some.is at c.in_ok-named.ensures.did) c.in_ok-whole_name.ensures)
    (λ file read costs told is.
    spelt_by file told c.args.number c.args.at c.args.src.now c.name_of.new.src (naming_of file c.args.number []) c.in-Some.named c.whole_name.new.name (read.0 told.records is.records) (rw off at read.1))

pub returns-clause-file : goal.returns-clause-file
returns-clause-file g c = λ file held told is. (rw c.in-Some.is at c.in_ok-named.ensures.file) file held told.records is.records
