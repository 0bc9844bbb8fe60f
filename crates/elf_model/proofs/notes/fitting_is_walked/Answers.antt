use Rattle.elf_model.proofs.NoteLaws.{fitting_is_walked}
use Rattle.elf_model.proofs.notes.fitting_is_walked.Goals as goal

pub returns : goal.returns
returns c = fitting_is_walked
