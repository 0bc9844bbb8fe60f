-- A record that names a version is compared by its name.
use Rattle.std.proofs.Common.{ap, sym, Ok, ◌∙◌, arith}
use Rattle.std.proofs.lemmas.Result.{err_from_is_err_and}
use Rattle.elf_table.proofs.LedgerLaws.{CallDid-as, CallDid-none, CallDid-of}
use Rattle.elf_table.specs.Tables.{strings_in}
use Rattle.elf_loader.proofs.CompareLaws.{one-fault, one-none, one-other, one-wanted}
use Rattle.elf_loader.proofs.name_comparison.compare_record.Goals as goal

pub returns-then-not-names_version : goal.returns-then-not-names_version
returns-then-not-names_version g c =
    CallDid-as _ (omega arith) (CallDid-none c.args.src.now)
    (λ file told costs met others is.
    one-none file c.args.version.now (strings_in file c.args.names.now) met others c.args.numbers.now (sym (c.names_version.ensures file met is) ∙ c.if-not-names_version.true))

pub returns-in_err-equals : goal.returns-in_err-equals
returns-in_err-equals g c =
    let p = err_from_is_err_and c.from_residual.result c.from_residual.ensures.1 in
    let off = c.from-off.ensures in
    rw (p.1, p.2)
    (CallDid-as _ (omega arith) (CallDid-of c.equals.ensures.reads c.in_err-equals.ensures.says c.in_err-equals.ensures.compared)
    (λ file told costs met others is.
    one-fault file c.args.version.now (strings_in file c.args.names.now) met others c.args.numbers.now c.args.numbers.now c.args.given.now _ is
    (sym (c.names_version.ensures file met is) ∙ c.if-not-names_version.false) (rw off at told)))

pub returns-then-branch : goal.returns-then-branch
returns-then-branch g c =
    let off = c.from-off.ensures in
    CallDid-as _ (omega arith) (CallDid-of c.equals.ensures.reads tt c.in_ok-equals.ensures.compared)
    (λ file told costs met others is.
    one-wanted file c.args.version.now (strings_in file c.args.names.now) met others c.args.numbers.now c.insert.new.self c.args.given.now is
    (sym (c.names_version.ensures file met is) ∙ c.if-not-names_version.false) (rw off at told ∙ ap Ok c.if-branch.true) (λ other. rw (← c.version_number.ensures) (c.insert.ensures other)))

pub returns-else-branch : goal.returns-else-branch
returns-else-branch g c =
    let off = c.from-off.ensures in
    CallDid-as _ (omega arith) (CallDid-of c.equals.ensures.reads tt c.in_ok-equals.ensures.compared)
    (λ file told costs met others is.
    one-other file c.args.version.now (strings_in file c.args.names.now) met others c.args.numbers.now c.args.given.now is
    (sym (c.names_version.ensures file met is) ∙ c.if-not-names_version.false) (rw off at told ∙ ap Ok c.if-branch.false))
