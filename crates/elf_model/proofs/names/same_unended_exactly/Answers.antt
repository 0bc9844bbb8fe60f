use Rattle.elf_model.proofs.SameLaws.{same_unended}
use Rattle.elf_model.proofs.names.same_unended_exactly.Goals as goal

pub returns : goal.returns
returns c = same_unended
