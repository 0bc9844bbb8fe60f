use Rattle.elf_model.proofs.NoteLaws.{walked_is_cut}
use Rattle.elf_model.proofs.notes.walked_is_cut.Goals as goal

pub returns : goal.returns
returns c = walked_is_cut
