use Rattle.std.proofs.Common.{sym, subst}
use Rattle.std.proofs.lemmas.Result.{err_from_is_err_and}
use Rattle.elf_resolve.specs.ResolvedInputs.{IsPlanned}
use Rattle.elf_resolve.proofs.ReadBudgetLaws.{file_spends, spends_same}
use Rattle.elf_resolve.proofs.RefusalLaws.{limit_stops}
use Rattle.elf_resolve.proofs.resolver.Resolver.read_input.Goals as goal

pub returns-clause-takes : goal.returns-clause-takes
returns-clause-takes g c = λ all file planned known file_is is done.
    let opens = c.in_ok-src.ensures.opens file known in
    let planned_now = subst (λ k. IsPlanned all k c.args.index c.args.input) (sym c.open.ensures.file) planned in
    c.take_file-taken.ensures.takes all file planned_now is opens.0 opens.1 file_is done

pub returns-clause-leaves : goal.returns-clause-leaves
returns-clause-leaves g c = λ all file planned known file_is is done none.
    let opens = c.in_ok-src.ensures.opens file known in
    let planned_now = subst (λ k. IsPlanned all k c.args.index c.args.input) (sym c.open.ensures.file) planned in
    c.take_file-taken.ensures.leaves all file planned_now is opens.0 opens.1 file_is done none

pub returns-in_err-src-clause-leaves : goal.returns-in_err-src-clause-leaves
returns-in_err-src-clause-leaves g c = λ all file planned known file_is is done none.
    let p = err_from_is_err_and c.from_residual.result c.from_residual.ensures.1 in
    rw (p.1, p.2) (limit_stops all ⊥ _ _ _ c.in_err-src.field-0.0 c.in_err-src.ensures.limit)

pub returns-clause-names : goal.returns-clause-names
returns-clause-names g c = λ all file planned known file_is is done.
    let opens = c.in_ok-src.ensures.opens file known in
    let planned_now = subst (λ k. IsPlanned all k c.args.index c.args.input) (sym c.open.ensures.file) planned in
    c.take_file-taken.ensures.names all file planned_now is opens.0 opens.1 file_is done

pub returns-in_err-src-clause-spends : goal.returns-in_err-src-clause-spends
returns-in_err-src-clause-spends g c = spends_same c.args.files.now.budget c.open.new.self.budget c.in_err-src.ensures.within

pub returns-clause-spends : goal.returns-clause-spends
returns-clause-spends g c =
    let within = c.in_ok-src.ensures.within in
    file_spends c.args.files.now.budget c.open.new.self.budget c.close.new.self.budget c.in_ok-src.src c.take_file-taken.new.src within.0 within.2 c.take_file-taken.ensures.most c.close.ensures.pays
