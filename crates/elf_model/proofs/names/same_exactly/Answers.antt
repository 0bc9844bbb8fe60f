use Rattle.elf_model.proofs.SameLaws.{same_exactly}
use Rattle.elf_model.proofs.names.same_exactly.Goals as goal

pub returns : goal.returns
returns c = same_exactly
