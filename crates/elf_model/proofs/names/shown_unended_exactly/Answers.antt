use Rattle.elf_model.proofs.NameLaws.{shown_unended}
use Rattle.elf_model.proofs.names.shown_unended_exactly.Goals as goal

pub returns : goal.returns
returns c = shown_unended
