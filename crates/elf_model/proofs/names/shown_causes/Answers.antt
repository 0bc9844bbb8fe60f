use Rattle.elf_model.proofs.NameLaws.{shown_causes}
use Rattle.elf_model.proofs.names.shown_causes.Goals as goal

pub returns : goal.returns
returns c = shown_causes
