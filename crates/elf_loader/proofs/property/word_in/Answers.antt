-- The feature bits were found, or the property is of another type, or of another size; or they are
-- read.
use Rattle.std.proofs.Common.{arith, sym, ◌∙◌}
use Rattle.std.proofs.lemmas.Result.{err_from_is_err_and}
use Rattle.elf_table.proofs.LedgerLaws.{CallDid-as, CallDid-none, CallDid-sized}
use Rattle.elf_loader.proofs.WordLaws.{kept, missing, other_size, read_word_is, word_read_stops}
use Rattle.elf_loader.proofs.property.word_in.Goals as goal

pub returns-then-is_some : goal.returns-then-is_some
returns-then-is_some g c =
    CallDid-as _ (omega arith) (CallDid-none c.args.src.now) (λ file told costs. kept file c.args.at c.args.head.now c.args.found (sym c.is_some.ensures ∙ c.if-is_some.true))

pub returns-then-head : goal.returns-then-head
returns-then-head g c =
    CallDid-as _ (omega arith) (CallDid-none c.args.src.now)
    (λ file told costs. missing file c.args.at c.args.head.now c.args.found (sym c.is_some.ensures ∙ c.if-is_some.false) c.if-head.true)

pub returns-then-head-ne4 : goal.returns-then-head-ne4
returns-then-head-ne4 g c =
    CallDid-as _ (omega arith) (CallDid-sized (CallDid-none c.args.src.now))
    (λ file told costs.
    other_size file c.args.at c.args.head.now c.args.found (omega (arith, told.0, c.requires.within)) (sym c.is_some.ensures ∙ c.if-is_some.false) c.if-head.false c.if-head-ne4.true)

pub returns-in_err-word : goal.returns-in_err-word
returns-in_err-word g c =
    let p = err_from_is_err_and c.from_residual.result c.from_residual.ensures.1 in
    rw (p.1, p.2) (CallDid-as _ (omega arith) c.in_err-word.ensures (λ file told costs. word_read_stops file c.args.at c.args.head.now c.args.found _ told))

pub returns : goal.returns
returns g c =
    CallDid-as _ (omega arith) (CallDid-sized c.in_ok-word.ensures)
    (λ file told costs.
    read_word_is file c.args.at c.args.head.now c.args.found _ (omega (arith, told.0, c.requires.within)) (sym c.is_some.ensures ∙ c.if-is_some.false) c.if-head.false c.if-head-ne4.false told.1)
