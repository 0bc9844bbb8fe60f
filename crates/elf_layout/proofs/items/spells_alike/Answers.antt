use Rattle.std.proofs.Common.{refl}
use Rattle.elf_layout.proofs.ListedSteps.{alike_told}
use Rattle.elf_layout.proofs.items.spells_alike.Goals as goal

pub returns-in-Some : goal.returns-in-Some
returns-in-Some c = alike_told c.args.line.now c.in-Some.found c.args.wanted.now c.are_alike.result c.in-Some.ensures.spelled c.are_alike.ensures

pub returns-in-None : goal.returns-in-None
returns-in-None c = λ said. c.in-None.ensures.unspelled refl said.0 said.1
