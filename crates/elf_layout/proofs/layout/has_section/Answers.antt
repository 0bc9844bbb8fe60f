use Rattle.std.proofs.Common.{ap, ◌∙◌, is_some}
use Rattle.elf_layout.proofs.LayoutSteps.{has_address}
use Rattle.elf_layout.proofs.layout.has_section.Goals as goal

pub returns : goal.returns
returns c = has_address c.args.items.now c.args.index c.is_some.result (c.is_some.ensures ∙ ap is_some c.address_in.ensures)
