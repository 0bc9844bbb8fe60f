use Rattle.elf_model.proofs.NoteLaws.{cut_is_walked}
use Rattle.elf_model.proofs.notes.cut_is_walked.Goals as goal

pub returns : goal.returns
returns c = cut_is_walked
