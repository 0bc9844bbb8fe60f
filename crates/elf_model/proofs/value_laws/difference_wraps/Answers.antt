use Rattle.elf_model.proofs.ValueLaws.{difference_wraps}
use Rattle.elf_model.proofs.value_laws.difference_wraps.Goals as goal

pub returns : goal.returns
returns c = difference_wraps
