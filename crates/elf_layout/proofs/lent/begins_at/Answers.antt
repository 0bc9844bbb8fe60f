use Rattle.elf_layout.proofs.NameSteps.{begins_there}
use Rattle.elf_layout.proofs.lent.begins_at.Goals as goal

pub returns-then-place-items : goal.returns-then-place-items
returns-then-place-items c = begins_there c.args.items.now c.args.place c.args.front.now c.name_at.result.now c.if-place-items.true c.name_at.ensures c.begins.result c.begins.ensures
