-- The record is found, and its name is read.
use Rattle.std.proofs.Common.{ℕ, [], IfErr, IfSome, Result, Ok, Err, arith}
use Rattle.std.proofs.lemmas.Result.{err_from_is_err_and}
use Rattle.elf_source.specs.Source.{CountedState}
use Rattle.elf_table.specs.Prelude.{IsReadFault, fault_of_result}
use Rattle.elf_table.specs.declared.fault.Fault.{Fault}
use Rattle.elf_table.specs.declared.fault.Fault.TheVariants.{Refused}
use Rattle.elf_table.proofs.LedgerLaws.{CallDid-as, CallDid-of, CallDid-stop, CallDid-then}
use Rattle.elf_model.specs.Prelude.{naming_of, readings}
use Rattle.elf_model.specs.declared.causes.Cause.TheVariants.{VersionIndex}
use Rattle.elf_table.proofs.Absent.{none-of}
use Rattle.elf_loader.proofs.NamingLaws.{naming-nothing}
use Rattle.elf_loader.proofs.TellingLaws.{fault-tells, name-fails, name-tells, none-tells}
use Rattle.elf_loader.proofs.resolved_version_name.parsed_member_name.Goals as goal

says-stopped : {X : Type 0} (a b : CountedState) (n : ℕ) (result : Result X Fault) → IfErr result (IsReadFault a b n) → IfSome (fault_of_result result) (IsReadFault a b n)
says-stopped a b n (Ok x) says = tt
says-stopped a b n (Err fault) says = says

pub returns-in_err-named : goal.returns-in_err-named
returns-in_err-named g c =
    let p = err_from_is_err_and c.from_residual.result c.from_residual.ensures.1 in
    rw (p.1, p.2)
    (CallDid-as _ (omega arith) c.in_err-named.ensures.did
    (λ file read costs scope words y is here. fault-tells file scope words y _ (naming_of file c.args.number []) _ _ c.args.name.now _ (read scope.symbols.records is.records)))

pub returns-in_default : goal.returns-in_default
returns-in_default g c =
    let none = none-of c.in_ok-named.field-0 c.in_default.not-Some in
    rw c.refused.ensures
    (CallDid-as _ (omega arith) (CallDid-stop (Refused (record { at = c.args.at; cause = VersionIndex })) (λ budget. cc) (rw none at c.in_ok-named.ensures.did))
    (λ file read costs scope words y is here.
    none-tells file scope words y c.args.at (naming_of file c.args.number (readings file scope.symbols.records)) (naming_of file c.args.number []) c.args.src.now c.name_of.new.src c.args.name.now here (naming-nothing file c.args.number) (read scope.symbols.records is.records)))

pub returns-in_err-end : goal.returns-in_err-end
returns-in_err-end g c =
    let p = err_from_is_err_and c.from_residual-in_err-end.result c.from_residual-in_err-end.ensures.1 in
    let off = c.from-off.ensures in
    let says = says-stopped _ _ _ c.read.result c.read.ensures.says in
    rw (p.1, p.2)
    (CallDid-as _ (omega arith) (CallDid-then (rw c.in-Some.is at c.in_ok-named.ensures.did) (CallDid-of c.in_err-end.ensures.reads c.in_err-end.ensures.says c.in_err-end.ensures.read))
    (λ file read costs scope words y is here.
    name-fails file scope words y (naming_of file c.args.number (readings file scope.symbols.records)) (naming_of file c.args.number []) c.args.src.now c.name_of.new.src c.read.new.src c.read.new.name c.in-Some.named _
    (read.0 scope.symbols.records is.records) (record { reads = c.in_err-end.ensures.reads; says = c.in_err-end.ensures.says }) (rw off at read.1)))

pub returns : goal.returns
returns g c =
    let off = c.from-off.ensures in
    let at = rw c.at.ensures.value at c.saturating_add-at.ensures in
    CallDid-as _ (omega arith) (CallDid-then (rw c.in-Some.is at c.in_ok-named.ensures.did) (CallDid-of c.in_ok-end.ensures.reads tt c.in_ok-end.ensures.read))
    (λ file read costs scope words y is here.
    name-tells file scope words y _ (naming_of file c.args.number (readings file scope.symbols.records)) (naming_of file c.args.number []) c.args.src.now c.name_of.new.src c.read.new.src c.read.new.name c.in-Some.named c.in_ok-end.end
    (read.0 scope.symbols.records is.records) (record { reads = c.in_ok-end.ensures.reads; says = tt }) (rw off at read.1) c.at.ensures.ends (rw off at at))
