-- The symbol, its name and its versym entry are read, as far as they decide.
use Rattle.std.proofs.Common.{Ok, ap, sym, ◌∙◌, arith}
use Rattle.std.proofs.lemmas.Result.{err_from_is_err_and}
use Rattle.elf_table.proofs.LedgerLaws.{CallDid-as, CallDid-of, CallDid-then}
use Rattle.elf_loader.specs.NumberSets.{has_number}
use Rattle.elf_options.specs.Wants.{query_of}
use Rattle.elf_loader.proofs.AnswerLaws.{fault-answers, fault-tells, offered-answers, other-answers, symbol-is, unoffered-answers}
use Rattle.elf_loader.proofs.version_matcher.answering.Goals as goal

pub returns-in_err-equals : goal.returns-in_err-equals
returns-in_err-equals g c =
    let p = err_from_is_err_and c.from_residual-in_err-equals.result c.from_residual-in_err-equals.ensures.1 in
    let off = c.from-off.ensures in
    let symbol = CallDid-of c.symbol.ensures.reads tt c.in_ok-symbol.ensures.read in
    rw (p.1, p.2)
    (CallDid-as _ (omega arith) (CallDid-then symbol (CallDid-of c.equals.ensures.reads c.in_err-equals.ensures.says c.in_err-equals.ensures.compared))
    (λ file read costs told is.
    fault-answers file told c.args.symbols.now (query_of c.args.wanted.now) (has_number c.args.numbers.now) c.args.index _ is c.args.symbols.now.rows c.requires.below read.0
    _ _ c.place-place.ensures (rw off at read.1)))

pub returns-then-not-branch : goal.returns-then-not-branch
returns-then-not-branch g c =
    let off = c.from-off.ensures in
    let symbol = CallDid-of c.symbol.ensures.reads tt c.in_ok-symbol.ensures.read in
    CallDid-as _ (omega arith) (CallDid-then symbol (CallDid-of c.equals.ensures.reads tt c.in_ok-equals.ensures.compared))
    (λ file read costs told is.
    other-answers file told c.args.symbols.now (query_of c.args.wanted.now) (has_number c.args.numbers.now) c.args.index c.in_ok-symbol.symbol is c.args.symbols.now.rows c.requires.below read.0
    (rw off at read.1 ∙ ap Ok c.if-not-branch.true))

pub returns-then-not-is_exported : goal.returns-then-not-is_exported
returns-then-not-is_exported g c =
    let off = c.from-off.ensures in
    let symbol = CallDid-of c.symbol.ensures.reads tt c.in_ok-symbol.ensures.read in
    CallDid-as _ (omega arith) (CallDid-then symbol (CallDid-of c.equals.ensures.reads tt c.in_ok-equals.ensures.compared))
    (λ file read costs told is.
    let here = symbol-is file told c.args.symbols.now (query_of c.args.wanted.now) (has_number c.args.numbers.now) c.args.index c.in_ok-symbol.symbol is c.args.symbols.now.rows c.requires.below read.0 in
    unoffered-answers file told c.args.symbols.now (query_of c.args.wanted.now) (has_number c.args.numbers.now) c.args.index c.in_ok-symbol.symbol is c.args.symbols.now.rows c.requires.below read.0
    (rw off at read.1 ∙ ap Ok c.if-not-branch.false) (sym (c.is_exported.ensures file _ here) ∙ c.if-not-is_exported.true))

pub returns-in_err-fit : goal.returns-in_err-fit
returns-in_err-fit g c =
    let p = err_from_is_err_and c.from_residual-in_err-fit.result c.from_residual-in_err-fit.ensures.1 in
    let off = c.from-off.ensures in
    let symbol = CallDid-of c.symbol.ensures.reads tt c.in_ok-symbol.ensures.read in
    rw (p.1, p.2)
    (CallDid-as _ (omega arith) (CallDid-then (CallDid-then symbol (CallDid-of c.equals.ensures.reads tt c.in_ok-equals.ensures.compared)) c.in_err-fit.ensures)
    (λ file read costs told is.
    let here = symbol-is file told c.args.symbols.now (query_of c.args.wanted.now) (has_number c.args.numbers.now) c.args.index c.in_ok-symbol.symbol is c.args.symbols.now.rows c.requires.below read.0.0 in
    let e = offered-answers file told c.args.symbols.now (query_of c.args.wanted.now) (has_number c.args.numbers.now) c.args.index c.in_ok-symbol.symbol is c.args.symbols.now.rows c.requires.below read.0.0
    (rw off at read.0.1 ∙ ap Ok c.if-not-branch.false) (sym (c.is_exported.ensures file _ here) ∙ c.if-not-is_exported.false) in
    fault-tells file c.args.symbols.now c.args.symbols.now.words c.args.index _ _ _ e (read.1 told.words is.words)))

pub returns : goal.returns
returns g c =
    let off = c.from-off.ensures in
    let symbol = CallDid-of c.symbol.ensures.reads tt c.in_ok-symbol.ensures.read in
    CallDid-as _ (omega arith) (CallDid-then (CallDid-then symbol (CallDid-of c.equals.ensures.reads tt c.in_ok-equals.ensures.compared)) c.in_ok-fit.ensures)
    (λ file read costs told is.
    let here = symbol-is file told c.args.symbols.now (query_of c.args.wanted.now) (has_number c.args.numbers.now) c.args.index c.in_ok-symbol.symbol is c.args.symbols.now.rows c.requires.below read.0.0 in
    let e = offered-answers file told c.args.symbols.now (query_of c.args.wanted.now) (has_number c.args.numbers.now) c.args.index c.in_ok-symbol.symbol is c.args.symbols.now.rows c.requires.below read.0.0
    (rw off at read.0.1 ∙ ap Ok c.if-not-branch.false) (sym (c.is_exported.ensures file _ here) ∙ c.if-not-is_exported.false) in
    let fit = read.1 told.words is.words in
    (e ∙ fit.0 ∙ ap Ok c.if-not-fit.false, (read.0.0, fit.1)))

pub returns-then-not-fit : goal.returns-then-not-fit
returns-then-not-fit g c =
    let off = c.from-off.ensures in
    let symbol = CallDid-of c.symbol.ensures.reads tt c.in_ok-symbol.ensures.read in
    CallDid-as _ (omega arith) (CallDid-then (CallDid-then symbol (CallDid-of c.equals.ensures.reads tt c.in_ok-equals.ensures.compared)) c.in_ok-fit.ensures)
    (λ file read costs told is.
    let here = symbol-is file told c.args.symbols.now (query_of c.args.wanted.now) (has_number c.args.numbers.now) c.args.index c.in_ok-symbol.symbol is c.args.symbols.now.rows c.requires.below read.0.0 in
    let e = offered-answers file told c.args.symbols.now (query_of c.args.wanted.now) (has_number c.args.numbers.now) c.args.index c.in_ok-symbol.symbol is c.args.symbols.now.rows c.requires.below read.0.0
    (rw off at read.0.1 ∙ ap Ok c.if-not-branch.false) (sym (c.is_exported.ensures file _ here) ∙ c.if-not-is_exported.false) in
    e ∙ (read.1 told.words is.words).0 ∙ ap Ok c.if-not-fit.true)
