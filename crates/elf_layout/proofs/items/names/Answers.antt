use Rattle.elf_layout.proofs.ListedSteps.{name_there, names_twice}
use Rattle.elf_layout.proofs.items.names.Goals as goal

pub returns-in-Err-clause-refused : goal.returns-in-Err-clause-refused
returns-in-Err-clause-refused c =
    let i = c.in-Err.i in
    let within = c.in-Err.ensures.refused.0 in
    names_twice c.args.items.now i _ within c.requires.sorted c.in-Err.ensures.falls (name_there c.args.items.now i _ within c.requires.named)
