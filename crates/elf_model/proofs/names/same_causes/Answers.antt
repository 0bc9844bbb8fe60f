use Rattle.elf_model.proofs.SameLaws.{same_causes}
use Rattle.elf_model.proofs.names.same_causes.Goals as goal

pub returns : goal.returns
returns c = same_causes
