use Rattle.elf_model.proofs.OneRule.{first_entries_are_alike}
use Rattle.elf_model.proofs.loader_laws.first_entries_are_alike.Goals as goal

pub returns : goal.returns
returns c = first_entries_are_alike
