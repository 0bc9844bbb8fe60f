-- The entry of the symbol is read, if there is one, and the version with its index.
use Rattle.std.proofs.Common.{Option, Result, IfOk, sym, subst, ◌∙◌, arith}
use Rattle.elf_table.proofs.Absent.{none-of}
use Rattle.elf_table.proofs.LedgerLaws.{CallDid-as, CallDid-none, CallDid-stop, CallDid-then}
use Rattle.elf_table.specs.declared.fault.Fault.TheVariants.{Refused}
use Rattle.elf_model.specs.declared.causes.Cause.TheVariants.{VersionCut}
use Rattle.elf_model.specs.Prelude.{VersionQuery, VisitedRecord}
use Rattle.elf_model.specs.declared.causes.Refusal.{Refusal}
use Rattle.elf_loader.specs.Naming.{IsFileIf}
use Rattle.elf_library.specs.Sought.{ReturnsVersionIf}
use Rattle.elf_library.proofs.SoughtLaws.{cut, numbered, of_none, of_numbered, of_plain, plain, wordless}
use Rattle.elf_library.proofs.reference.reference_version.Goals as goal

pub returns-in_default-clause-did : goal.returns-in_default-clause-did
returns-in_default-clause-did g c =
    let none = none-of c.args.symbols.now.words c.in_default.not-Some in
    CallDid-as _ (omega arith) (CallDid-none c.args.src.now)
    (λ file read costs told is are. wordless file told c.args.symbols.now c.args.index is none)

pub returns-then-index-len-clause-did : goal.returns-then-index-len-clause-did
returns-then-index-len-clause-did g c =
    rw c.refused.ensures
    (CallDid-as _ (omega arith) (CallDid-stop (Refused (record { at = c.in-Some.words.head; cause = VersionCut })) (λ budget. cc) (CallDid-none c.args.src.now))
    (λ file read costs told is are unless. cut file told c.args.symbols.now c.args.index is c.in-Some.words c.in-Some.is (omega (arith, c.len.ensures, c.if-index-len.true))))

pub returns-then-number-lt2-clause-did : goal.returns-then-number-lt2-clause-did
returns-then-number-lt2-clause-did g c =
    let place = c.place-place.ensures in
    CallDid-as _ (omega arith) c.in_ok-number.ensures
    (λ file read costs told is are.
    plain file told c.args.symbols.now c.args.index is c.in-Some.words c.in-Some.is c.in_ok-number.field-0 c.in-Some.words.entry (omega (arith, c.len.ensures, c.if-index-len.false)) (rw place at read)
    c.if-number-lt2.true)

pub returns-clause-did : goal.returns-clause-did
returns-clause-did g c =
    let place = c.place-place.ensures in
    CallDid-as _ (omega arith) (CallDid-then c.in_ok-number.ensures c.version_by_number.ensures.did)
    (λ file read costs told is are.
    let e = numbered file told c.args.symbols.now c.args.index is c.in-Some.words c.in-Some.is c.in_ok-number.field-0 c.in-Some.words.entry (omega (arith, c.len.ensures, c.if-index-len.false)) (rw place at read.0)
    (omega (arith, c.if-number-lt2.false)) in
    subst (λ (t : Result VersionQuery Refusal). ReturnsVersionIf t c.version_by_number.new.version c.version_by_number.result) (sym e) (rw place at (read.1 told is are)))

pub returns-in_default-clause-file : goal.returns-in_default-clause-file
returns-in_default-clause-file g c =
    let none = none-of c.args.symbols.now.words c.in_default.not-Some in
    λ file held told is are. let e = of_none file told c.args.symbols.now c.args.index is none in rw e tt

pub returns-then-number-lt2-clause-file : goal.returns-then-number-lt2-clause-file
returns-then-number-lt2-clause-file g c =
    let place = c.place-place.ensures in
    λ file held told is are.
    let e = of_plain file told c.args.symbols.now c.args.index is c.in-Some.words c.in-Some.is c.in_ok-number.field-0 c.in-Some.words.entry (rw place at (c.in_ok-number.ensures.known file held)) c.if-number-lt2.true in
    rw e tt

pub returns-clause-file : goal.returns-clause-file
returns-clause-file g c =
    let place = c.place-place.ensures in
    λ file held told is are.
    let e = of_numbered file told c.args.symbols.now c.args.index is c.in-Some.words c.in-Some.is c.in_ok-number.field-0 c.in-Some.words.entry (rw place at (c.in_ok-number.ensures.known file held)) (omega (arith, c.if-number-lt2.false)) in
    subst (λ (f : Option VisitedRecord). IfOk c.version_by_number.result (λ asked. IsFileIf file f asked.file)) (sym e)
    (c.version_by_number.ensures.file file (c.in_ok-number.ensures.costs.reads.keeps.same_file ∙ held) told is are)

pub returns-clause-kept : goal.returns-clause-kept
returns-clause-kept g c = record { keeps = λ file held. c.version_by_number.ensures.kept.keeps file (c.in_ok-number.ensures.costs.reads.keeps.same_file ∙ held) }
