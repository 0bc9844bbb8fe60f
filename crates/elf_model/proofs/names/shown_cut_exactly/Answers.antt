use Rattle.elf_model.proofs.NameLaws.{shown_cut}
use Rattle.elf_model.proofs.names.shown_cut_exactly.Goals as goal

pub returns : goal.returns
returns c = shown_cut
