use Rattle.elf_resolve.proofs.ReadBudgetLaws.{file_spends, spends_same}
use Rattle.elf_resolve.proofs.resolver.Resolver.read_again.Goals as goal

pub returns-in_err-src-clause-spends : goal.returns-in_err-src-clause-spends
returns-in_err-src-clause-spends g c = spends_same c.args.files.now.budget c.open.new.self.budget c.in_err-src.ensures.within

pub returns-clause-spends : goal.returns-clause-spends
returns-clause-spends g c =
    let within = c.in_ok-src.ensures.within in
    file_spends c.args.files.now.budget c.open.new.self.budget c.close.new.self.budget c.in_ok-src.src c.reopen_library-end.new.src within.0 within.2 c.reopen_library-end.ensures.most c.close.ensures.pays
