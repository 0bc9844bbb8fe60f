use Rattle.elf_model.proofs.NameLaws.{shown_whole}
use Rattle.elf_model.proofs.names.shown_whole_exactly.Goals as goal

pub returns : goal.returns
returns c = shown_whole
