-- No versions, or the symbol's.
use Rattle.std.proofs.Common.{arith}
use Rattle.std.proofs.lemmas.Result.{err_from_is_err_and}
use Rattle.elf_table.proofs.LedgerLaws.{CallDid-as, CallDid-none}
use Rattle.elf_table.proofs.Absent.{none-of}
use Rattle.elf_options.specs.Wants.{asked_of}
use Rattle.elf_loader.proofs.FoundLaws.{finds-failed, finds-none, finds-some}
use Rattle.elf_loader.proofs.found.version_of.Goals as goal

pub returns-in_default : goal.returns-in_default
returns-in_default g c =
    let none = none-of c.args.symbols.now.words c.in_default.not-Some in
    CallDid-as _ (omega arith) (CallDid-none c.args.src.now)
    (λ file read costs scope is is_at. finds-none file scope (asked_of c.args.asked.now) c.args.found.now.index c.args.name.now c.args.src.now (rw none at is.words))

pub returns-in_err-version : goal.returns-in_err-version
returns-in_err-version g c =
    let p = err_from_is_err_and c.from_residual.result c.from_residual.ensures.1 in
    rw (p.1, p.2)
    (CallDid-as _ (omega arith) c.in_err-version.ensures
    (λ file read costs scope is is_at.
    let here = rw (c.in-Some.is, c.in-Some-version.is) at is_at in
    finds-failed file scope (asked_of c.args.asked.now) c.args.found.now.index c.found_version.new.name c.in-Some.words (rw c.in-Some.is at is.words) _
    (λ told words. read scope told c.args.found.now.index is words here)))

pub returns : goal.returns
returns g c =
    CallDid-as _ (omega arith) c.in_ok-version.ensures
    (λ file read costs scope is is_at.
    let here = rw (c.in-Some.is, c.in-Some-version.is) at is_at in
    finds-some file scope (asked_of c.args.asked.now) c.args.found.now.index c.found_version.new.name c.in-Some.words (rw c.in-Some.is at is.words) c.in_ok-version.version
    (λ told words. read scope told c.args.found.now.index is words here))
