use Rattle.elf_model.proofs.ValueLaws.{sum_wraps}
use Rattle.elf_model.proofs.value_laws.sum_wraps.Goals as goal

pub returns : goal.returns
returns c = sum_wraps
