use Rattle.elf_model.proofs.NameLaws.{one_name}
use Rattle.elf_model.proofs.names.one_name_at_most.Goals as goal

pub returns : goal.returns
returns c = one_name
