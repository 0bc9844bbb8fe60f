use Rattle.elf_model.proofs.ChangeLaws.{entry_stores_value}
use Rattle.elf_model.proofs.apply_laws.entry_stores_value.Goals as goal

pub returns : goal.returns
returns c = entry_stores_value
