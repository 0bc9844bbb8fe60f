use Rattle.elf_model.proofs.NameLaws.{shown_outside}
use Rattle.elf_model.proofs.names.shown_outside_exactly.Goals as goal

pub returns : goal.returns
returns c = shown_outside
