use Rattle.elf_model.proofs.SameLaws.{same_not}
use Rattle.elf_model.proofs.names.same_not_exactly.Goals as goal

pub returns : goal.returns
returns c = same_not
