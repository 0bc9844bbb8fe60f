-- No symbol, or the symbol with its version.
use Rattle.std.proofs.Common.{sym, ap, arith}
use Rattle.std.proofs.lemmas.Result.{err_from_is_err_and}
use Rattle.elf_table.proofs.LedgerLaws.{CallDid-as, CallDid-none}
use Rattle.elf_model.specs.Chains.{ChainResult as NoteScan}
use Rattle.elf_table.proofs.Absent.{none-of}
use Rattle.elf_loader.proofs.LookLaws.{looks_absent, looks_found, looks_untold}
use Rattle.elf_options.specs.Wants.{query_of}
use Rattle.elf_loader.proofs.loader_lookup.answer_of.Goals as goal

pub returns-in_default : goal.returns-in_default
returns-in_default g c =
    let none = none-of c.args.walked.now.found c.in_default.not-Some in
    CallDid-as _ (omega arith) (CallDid-none c.args.src.now)
    (λ file read costs told is walk before gives first.
    let walked = rw none at gives.0 in
    looks_absent file told (query_of c.args.wanted.now) before walk first c.args.src.now c.args.name.now c.args.walked.now.tried (ap (λ (w : NoteScan). w.answer) walked) (sym (ap (λ (w : NoteScan). w.tried) walked)))

pub returns-in_err-version : goal.returns-in_err-version
returns-in_err-version g c =
    let p = err_from_is_err_and c.from_residual.result c.from_residual.ensures.1 in
    rw (p.1, p.2)
    (CallDid-as _ (omega arith) c.in_err-version.ensures
    (λ file finds costs told is walk before gives first.
    let walked = rw c.in-Some.is at gives in
    looks_untold file told (query_of c.args.wanted.now) before walk first c.in-Some.found.index (ap (λ (w : NoteScan). w.answer) walked.0) c.version_of.new.name _ (finds told is.symbols walked.1.1)))

pub returns : goal.returns
returns g c =
    CallDid-as _ (omega arith) c.in_ok-version.ensures
    (λ file finds costs told is walk before gives first.
    let walked = rw c.in-Some.is at gives in
    looks_found file told (query_of c.args.wanted.now) before walk first c.in-Some.found.index (ap (λ (w : NoteScan). w.answer) walked.0) c.version_of.new.name c.args.scope.now c.in-Some.found.answer c.in_ok-version.version c.args.walked.now.tried
    is walked.1 (sym (ap (λ (w : NoteScan). w.tried) walked.0)) (finds told is.symbols walked.1.1))
