use Rattle.elf_model.proofs.SameLaws.{same_outside}
use Rattle.elf_model.proofs.names.same_outside_exactly.Goals as goal

pub returns : goal.returns
returns c = same_outside
