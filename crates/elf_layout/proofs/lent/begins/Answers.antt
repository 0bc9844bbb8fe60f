use Rattle.elf_layout.proofs.NameSteps.{begins_said}
use Rattle.elf_layout.proofs.lent.begins.Goals as goal

pub returns : goal.returns
returns c = begins_said c.args.name.now c.args.front.now c.starts_with.result c.starts_with.ensures.value
